use Rattle.std.proofs.lemmas.Str.{IsUtf8-from_ascii}
use Rattle.iox2_ids.proofs.identifiers.hexadecimal.Hexadecimal.as_str.Goals as goal

pub unreachable-requires : goal.unreachable-requires
unreachable-requires c =
    c.in-Err.ensures.cases.0 (IsUtf8-from_ascii c.as_bytes.result.now c.as_bytes.ensures.ascii)
