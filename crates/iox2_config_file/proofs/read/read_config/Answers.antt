use Rattle.std.proofs.Common.{◌∙◌, ap}
use Rattle.std.specs.Prelude.{map}
use Rattle.iox2_config_file.specs.Read.{fault_view}
use Rattle.toml.specs.View.{table_view}
use Rattle.iox2_config_file.proofs.read.read_config.Goals as goal

pub returns-clause-ok : goal.returns-clause-ok
returns-clause-ok c =
    let file = table_view c.in_ok-file.file in record {
      file = file;
      default = c.default.result;
      parsed = c.in_ok-file.ensures.ok;
      is_default = c.default.ensures;
      config = c.settings_of.ensures c.default.result file
          (λ k. ap (λ l. map fault_view l) c.as_slice.ensures.value ∙ c.in-Ok.ensures.faults k)
          c.config-config.ensures;
      faults = c.in-Ok.ensures.faults;
      unknown = c.in-Ok.ensures.unknown;
    }
