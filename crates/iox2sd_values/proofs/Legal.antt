-- Texts that are legal, by a test of each byte.
use Rattle.iox2sd_values.proofs.Prelude.{All-more, Bool, IsTrue, List, all_of_take, ap, length, list_all, refl, refuted, slice_get-get_or, take, take_all, ℕ, ◌&&◌, ◌↔◌, ◌∙◌, ◌≡◌, ◌≤◌}
use Rattle.std.specs.Bool.{Decides}
use Rattle.std.proofs.Math.Dec.{leb}
use Rattle.std.proofs.lemmas.Bool.{le-leb, leb-true}
use Rattle.std.proofs.lemmas.Bool.Decides.{Decides-and, Decides-at, Decides-by_and}
use Rattle.iox2_texts.specs.Text.{IsText, IsTextByte}

-- whether a text may hold the byte
abbrev pub is_legal : ℕ → Bool
is_legal b = leb 1 b && leb b 127

legal-Decides : (b : ℕ) → Decides (is_legal b) (IsTextByte b)
legal-Decides b =
    Decides-and (leb 1 b) (leb b 127) (leb-true 1 b, le-leb 1 b) (leb-true b 127, le-leb b 127)

-- a loop over all bytes reports whether they are a text
pub reports_text : (legal : Bool) (bytes : List ℕ) (i : ℕ) → length bytes ≤ i
    → legal ≡ list_all is_legal (take i bytes) → IsTrue legal ↔ IsText bytes
reports_text legal bytes i past is =
    Decides-at legal (list_all is_legal bytes) (is ∙ ap (list_all is_legal) (take_all i bytes past))
    (Decides-by_and is_legal IsTextByte (list_all is_legal) legal-Decides refl (λ _ _. refl) bytes)

-- what a search for the first element without a property has found
pub ruleset searched = (All-more, all_of_take, refuted, slice_get-get_or)
