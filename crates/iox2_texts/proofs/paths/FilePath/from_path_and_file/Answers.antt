use Rattle.std.proofs.Common.{arith}
use Rattle.iox2_texts.proofs.TextLemmas.{ends_plain_joined}
use Rattle.iox2_texts.proofs.paths.FilePath.from_path_and_file.Goals as goal

pub of_allowed-requires : goal.of_allowed-requires
of_allowed-requires c = (
  omega arith,
  (
    omega arith,
    ends_plain_joined c.as_bytes.result.now c.as_bytes-2.result.now c.in_ok-joined.field-0
        c.as_bytes-2.ensures.legal.1 c.in_ok-joined.ensures.value.0,
  ),
)
