use Rattle.std.proofs.Common.{◌≡◌, [], drop, length}
use Rattle.std.specs.Vec.Iter.{into_iter_items, into_iter_len}
use Rattle.settings_check.specs.Words.{none_chosen, said, texts_of, words_of}
use Rattle.settings_check.proofs.arguments.request_in.Given as goal

abbrev pub invariant-loop-word : goal.invariant-loop-word
invariant-loop-word l =
    (said l.chosen (texts_of l.files.items) (texts_of (into_iter_items l.word-iterator))
    ≡ said none_chosen [] (drop 1 (words_of l.fn.words)))
    × (into_iter_len l.word-iterator ≡ length (into_iter_items l.word-iterator))
