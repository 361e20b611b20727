use Rattle.settings_check.specs.Found.{found_view}
use Rattle.settings_check.specs.Words.{texts_of}
use Rattle.settings_check.proofs.Comparing.{found_toml}
use Rattle.settings_check.proofs.answer.answer_files.Goals as goal

pub add_compared-requires : goal.add_compared-requires
add_compared-requires g c =
    found_toml (g.F.Files.Gives c.args.files.now) c.args.input.now (texts_of c.as_slice.result.now)
    (found_view c.in_ok-found.found) c.in_ok-found.ensures
