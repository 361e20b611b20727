use Rattle.iox2sd_values.proofs.Prelude.{[], refl}
use Rattle.iox2_static.specs.Description.{Description}
use Rattle.iox2sd_common.specs.Ids.{number_of}
use Rattle.iox2sd_values.proofs.descriptions.describe.Goals as goal

pub returns-in-Ok-hash_text : goal.returns-in-Ok-hash_text
returns-in-Ok-hash_text c =
    let d : Description = record {
      name = c.in-Ok.name;
      id = number_of c.args.id;
      hash = c.in-Ok-hash_text.hash;
      attributes = [];
      pattern = c.in-Ok-pattern.pattern;
    } in
    let makes = rw c.kind.ensures at c.in-Ok-hash_text.ensures in
    rw (c.described.ensures, c.in-Ok.is, c.in-Ok-pattern.is) (d, (makes, refl), refl)
