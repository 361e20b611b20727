use Rattle.std.proofs.Common.{rules}
use Rattle.iox2_config_file.proofs.Written.{made_text, plain}
use Rattle.iox2_config_file.proofs.value.file_name.Goals as goal

pub returns : goal.returns
returns c = search (rules, made_text, plain)
