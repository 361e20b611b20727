use Rattle.std.proofs.Common.{rules}
use Rattle.iox2_config_file.proofs.Written.{made_text, any_path}
use Rattle.iox2_config_file.proofs.value.path.Goals as goal

pub returns : goal.returns
returns c = search (rules, made_text, any_path)
