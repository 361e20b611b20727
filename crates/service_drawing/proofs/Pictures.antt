-- Lists of things that are drawn one after the other.
use Rattle.std.proofs.Common.{◌≡◌, ℕ, ◌+◌, ◌-◌, ◌<◌, ◌≤◌, suc, List, [], ◌∷◌, ◌++◌, length, map, min, take, drop, get_or, refl, sym, ap, ◌∙◌, append_assoc, append-nil, map-id, arith}
use Rattle.std.specs.List.{flat_map, fold, range_with_len}
use Rattle.std.proofs.lemmas.List.{flat_map_more, map-append, take_more}
use Rattle.std.proofs.lemmas.List.FromFn.{map-range_with_len_more}
use Rattle.std.proofs.lemmas.List.Sums.{fold_push}
use Rattle.service_drawing.specs.Bars.{free_behind, mark_text, marks_text}
use Rattle.service_drawing.specs.Layout.{Shown, row_view}
use Rattle.service_drawing.specs.declared.sentences.Row.{Row}
use Rattle.service_drawing.specs.Svg.{below, line_text, lines_end, lines_text, row_end, row_text, rows_end, rows_text}
use Rattle.service_drawing.specs.declared.svg.lines.Face.{Face}

-- one line more of n
pub next_line : (f : Face) (top next n i : ℕ) (text rest old new whole : List ℕ) → i < n
    → next ≡ below top f.height → rest ≡ drop (min (length text) f.columns) text
    → new ≡ old ++ line_text f top (take (min (length text) f.columns) text)
    → old ++ lines_text f top (n - i) text ≡ whole
    → new ++ lines_text f next (n - (i + 1)) rest ≡ whole
next_line f top next n i text rest old new whole some goes left wrote is =
    let more : n - i ≡ suc (n - (i + 1)) = omega arith in
    rw (wrote, goes, left)
    (append_assoc old (line_text f top (take (min (length text) f.columns) text)) _
    ∙ (ap (λ (k : ℕ). old ++ lines_text f top k text) (sym more) ∙ is))

-- where they end
pub next_end : (f : Face) (top next n i whole : ℕ) → i < n → next ≡ below top f.height
    → lines_end f top (n - i) ≡ whole → lines_end f next (n - (i + 1)) ≡ whole
next_end f top next n i whole some goes is =
    let more : n - i ≡ suc (n - (i + 1)) = omega arith in
    rw goes (ap (λ (k : ℕ). lines_end f top k) (sym more) ∙ is)

-- no line is left
pub no_more_lines : (f : Face) (top n i : ℕ) (text : List ℕ) → n ≤ i
    → lines_text f top (n - i) text ≡ []
no_more_lines f top n i text none =
    let e : n - i ≡ 0 = omega arith in
    ap (λ (k : ℕ). lines_text f top k text) e

-- and it ends here
pub no_more_ends : (f : Face) (top n i : ℕ) → n ≤ i → lines_end f top (n - i) ≡ top
no_more_ends f top n i none =
    let e : n - i ≡ 0 = omega arith in
    ap (λ (k : ℕ). lines_end f top k) e

-- one number more
range_more : (n i : ℕ) → n ≡ i
    → range_with_len 0 (n + 1) ≡ range_with_len 0 n ++ i ∷ []
range_more n i e =
    let at : 0 + n ≡ i = omega arith in
    sym (map-id (range_with_len 0 (n + 1)))
    ∙ (map-range_with_len_more (λ (k : ℕ). k) 0 n i at
    ∙ ap (λ (xs : List ℕ). xs ++ i ∷ []) (map-id (range_with_len 0 n)))

-- one offset more
marks_push : (size free : ℕ) (offsets : List ℕ) (offset : ℕ)
    → marks_text size free (offsets ++ offset ∷ [])
    ≡ marks_text size free offsets
    ++ mark_text size (fold (free_behind size) free offsets) offset
marks_push size free [] offset = append-nil _
marks_push size free (first ∷ offsets) offset =
    ap (λ (more : List ℕ). mark_text size free first ++ more)
    (marks_push size (free_behind size free first) offsets offset)
    ∙ sym (append_assoc (mark_text size free first)
    (marks_text size (free_behind size free first) offsets) _)

-- the offset of one element more
pub next_mark : (size free n now : ℕ) (f : ℕ → ℕ) (start old new : List ℕ)
    → old ≡ start ++ marks_text size free (map f (range_with_len 0 n))
    → now ≡ fold (free_behind size) free (map f (range_with_len 0 n))
    → new ≡ old ++ mark_text size now (f n)
    → new ≡ start ++ marks_text size free (map f (range_with_len 0 (n + 1)))
next_mark size free n now f start old new was left wrote =
    rw (wrote, was, left, map-range_with_len_more f 0 n n (omega arith))
    (append_assoc start (marks_text size free (map f (range_with_len 0 n))) _
    ∙ ap (λ (more : List ℕ). start ++ more)
    (sym (marks_push size free (map f (range_with_len 0 n)) (f n))))

-- what is free behind it
pub next_free : (size free n now next : ℕ) (f : ℕ → ℕ)
    → now ≡ fold (free_behind size) free (map f (range_with_len 0 n))
    → next ≡ free_behind size now (f n)
    → next ≡ fold (free_behind size) free (map f (range_with_len 0 (n + 1)))
next_free size free n now next f was is =
    rw (is, was, map-range_with_len_more f 0 n n (omega arith))
    (sym (fold_push (free_behind size) free (map f (range_with_len 0 n)) (f n)))

-- one element more
pub next_element : (f : ℕ → List ℕ) (n : ℕ) (start old new : List ℕ)
    → old ≡ start ++ flat_map f (range_with_len 0 n) → new ≡ old ++ f n
    → new ≡ start ++ flat_map f (range_with_len 0 (n + 1))
next_element f n start old new was wrote =
    rw (wrote, was, range_more n n refl) (flat_map_more f start (range_with_len 0 n) n)

-- one row more
rows_push : (top : ℕ) (rows : List Shown) (row : Shown)
    → rows_text top (rows ++ row ∷ []) ≡ rows_text top rows ++ row_text (rows_end top rows) row
rows_push top [] row = append-nil _
rows_push top (first ∷ rows) row =
    ap (λ (more : List ℕ). row_text top first ++ more) (rows_push (row_end top first) rows row)
    ∙ sym (append_assoc (row_text top first) (rows_text (row_end top first) rows) _)

-- where it ends
rows_end_push : (top : ℕ) (rows : List Shown) (row : Shown)
    → rows_end top (rows ++ row ∷ []) ≡ row_end (rows_end top rows) row
rows_end_push top [] row = refl
rows_end_push top (first ∷ rows) row = rows_end_push (row_end top first) rows row

-- the rows up to the next one
up_to : (rows : List Row) (i : ℕ) (x : Row) → i < length rows → x ≡ get_or rows i x
    → map row_view (take (i + 1) rows) ≡ map row_view (take i rows) ++ row_view x ∷ []
up_to rows i x some is =
    ap (map row_view) (take_more rows i x some)
    ∙ (map-append row_view (take i rows) (get_or rows i x ∷ [])
    ∙ ap (λ (y : Row). map row_view (take i rows) ++ row_view y ∷ []) (sym is))

-- the next row
pub next_row : (rows : List Row) (i top now : ℕ) (x : Row) (start old new : List ℕ)
    → i < length rows → x ≡ get_or rows i x
    → old ≡ start ++ rows_text top (map row_view (take i rows))
    → now ≡ rows_end top (map row_view (take i rows))
    → new ≡ old ++ row_text now (row_view x)
    → new ≡ start ++ rows_text top (map row_view (take (i + 1) rows))
next_row rows i top now x start old new some is was at wrote =
    rw (wrote, was, at, up_to rows i x some is)
    (append_assoc start (rows_text top (map row_view (take i rows))) _
    ∙ ap (λ (more : List ℕ). start ++ more)
    (sym (rows_push top (map row_view (take i rows)) (row_view x))))

-- where it ends
pub next_row_end : (rows : List Row) (i top now next : ℕ) (x : Row) → i < length rows
    → x ≡ get_or rows i x → now ≡ rows_end top (map row_view (take i rows))
    → next ≡ row_end now (row_view x)
    → next ≡ rows_end top (map row_view (take (i + 1) rows))
next_row_end rows i top now next x some is was goes =
    rw (goes, was, up_to rows i x some is)
    (sym (rows_end_push top (map row_view (take i rows)) (row_view x)))
