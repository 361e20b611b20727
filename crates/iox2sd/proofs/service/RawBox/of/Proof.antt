-- The box goes to `into_raw`, whose answer is the raw box's pointer and what it owns.
use Rattle.iox2sd.proofs.Steps.{List, [], ◌∷◌, ◌++◌, refl, ap, ◌∙◌, Goes-blank, one, proved_at, box_owns, block, lone, bare, sem, ftrue, fsep, flft, full_share, SProp, emp, id⊢, never, fst∗, ◌⊑◌, fact, fact_i, tables, no, bounded, layout, param, param_laws, glues, RattleType, Valss, Ptr, RawPtr, block_ptr, null_ptr, ptr_val, in_a_block, plain, nothing, heard, only, shape, within, calls_at, lasts, Lasts, triple_of, framed, Stays, stay_dropped, walk_of, says, ends_at, inst_fn, a_type, dcons, dnil, Val, vptr, vstruct, vcons, vnil, WpFn, alloc_all, pass_all, free_all, look_at, get, sets, lands_as, ‵, raw, ◌⊛◌, some, later, ◌$◌, ◌∵◌, !, qed, move, keep, drop, use0, use1, split, join, fsplit, fjoin, fpack, feq_l, feq_i, pick, await, rewrite, regoal, prop, suffices, done, agg, enter, of_opd, no_more, and_then, returns}
use Rattle.std.proofs.alloc.Global.TheLaws as alloc
use Rattle.std.proofs.impls.GlobalAllocator.TheImpl.Met as allocator
use Rattle.std.specs.contracts.alloc.Global as Heap
use Rattle.std.specs.contracts.impls.GlobalAllocator.TheImpl.{ghosts, dict}
use Rattle.std_alloc.proofs.boxed.Box.TheLaws as box
use Rattle.std_alloc.proofs.boxed.Box.into_raw.Met.{met}
use Rattle.std_alloc.specs.contracts.boxed.Box as Box
use Rattle.std_alloc.specs.contracts.boxed.Box.into_raw as g
use Rattle.iox2sd.proofs.Steps.{heap, heap_laws, drops as spared}
use Rattle.iox2sd.proofs.service.RawBox.of.Code as code
use Rattle.iox2sd.proofs.service.RawBox.of.Statement.{statement}
use Rattle.iox2sd.specs.contracts.service.RawBox as RawBox
use Rattle.iox2sd.specs.contracts.service.RawBox.of as f

pub of_spec : {M : Type 1} → statement M
unfolding Rattle.iox2sd.proofs.Destruct++none.drop.Code.code
of_spec {M = M} 𝓤 𝓛 𝓜 𝓡 wired T laws drops dropped =
    let 𝓣 = tables 𝓤 𝓛.H 𝓜 𝓡 𝓡.env in let End = f.ended T drops in let c =
    f.clauses T drops 𝓛 𝓜.mem 𝓡.returns in
    let inst = bounded (a_type ∷ []) (T, tt) (dcons drops dnil) in let fn =
    inst_fn inst code.function in
    let X : RattleType = param 0 T in let Row : RattleType = Box.the_row X Heap.the_row ghosts in
    let Made : RattleType = RawBox.the_row X in
    let Raw =
    triple_of 𝓛 (g.signature T heap ghosts dict spared drops)
    (g.spec T heap ghosts dict spared drops 𝓛 𝓜.mem 𝓡.returns) in
    let known =
    met 𝓤 𝓛 𝓜 𝓡
    (code.calls-std_alloc::boxed::Box::into_raw 𝓡.env wired) T heap laws heap_laws ghosts
    dict spared drops
    (allocator.passed 𝓡.env (code.calls-std_heap::GlobalAllocator::allocate 𝓡.env wired)
    (code.calls-std_heap::GlobalAllocator::deallocate 𝓡.env wired)
    (code.calls-std_heap::GlobalAllocator::grow 𝓡.env wired)
    (code.calls-std_heap::GlobalAllocator::shrink 𝓡.env wired) M 𝓤 𝓛 𝓜 𝓡)
    (glues "iox2sd::Destruct++none::drop" 𝓡.env
    (code.calls-iox2sd::Destruct++none::drop 𝓡.env wired) heap heap_laws M 𝓤 𝓛 𝓜 𝓡) dropped
    in
    let stayed : Stays End.signature.params End.kept = (stay_dropped (plain (λ _. Row)) no, tt) in
    proved_at 𝓛 End stayed c 𝓜 𝓡 (Goes-blank 𝓛 1 (plain (λ _. Row)) no (λ κs x w. tt), tt)
    (f.Key.name inst) fn (code.unfolded 𝓤 𝓛.H 𝓜 𝓡 wired (T, tt) drops) (λ z are.
    let κ = z.0.0.0 in let q = z.0.1.0 in let b = z.0.3.0 in let within_T = κ ⊑ T.lives in
    let within_heap = [] ⊑ heap.lives in
    let Runs : List Val → SProp 𝓤 =
    λ vs. WpFn 𝓤 𝓛.H 𝓣.C 𝓣.Λ fn vs ((walk_of 𝓛 End stayed c).post z) in
    let w = one (layout Row) z.0.4.0
    (((box.the_row_laws X Heap.the_row ghosts
    (param_laws 0 T laws) alloc.the_row_laws).lawful 𝓛).typed b z.0.4.0 are.0) in
    let y : Raw.Ghost = (((κ, ([], tt)), (q, (full_share, tt)), tt, (b, tt), (w.0 ∷ [], tt)), tt) in
    qed 𝓛 (((‵ (flft κ q) ⊛ ‵ ftrue) ⊛ ‵ (fsep (Row.own_val b z.0.4.0) ftrue))
    ∷ raw (fact 𝓤 within_T) ∷ ‵ ftrue ∷ []) ∵
    move ! (1 ∷ []) $ heard ! within_T
    (λ lives. split ! $ move ! (1 ∷ []) $ fsplit ! $ keep ! (0 ∷ 2 ∷ []) $ rewrite ! 0
    (λ (vs : List Val). ‵ (Row.own_val b vs)) w.1 refl $
    -- [the token; true; what the box owns]
    move ! (1 ∷ []) $ split ! $ regoal !
    (λ (vs : List Val). prop (Runs (vs ++ []))) w.1 refl $ enter ! 𝓣.C 𝓣.Λ fn
    (w.0 ∷ []) _ $ alloc_all ! (λ l. pass_all ! refl (w.2, tt) $
    sets ! (of_opd ! (get ! refl)) refl w.2 $
    nothing ! $ use0 𝓛 (raw (fact 𝓤 within_heap))
    (fact_i 𝓤 within_heap (emp 𝓤) (alloc.the_within [])) $ join ! $
    use0 𝓛 (raw (fact 𝓤 within_T)) (fact_i 𝓤 within_T (emp 𝓤) lives) $ join ! $ nothing ! $ move !
    (4 ∷ 0 ∷ []) $ fjoin ! $
    move ! (3 ∷ []) $ use0 𝓛 (‵ (flft [] full_share)) (𝓛.lfts.lft-nil full_share) $ join ! $ move !
    (3 ∷ 0 ∷ []) $ join ! $ join ! $ join ! $
    use1 𝓛 (raw (Raw.pre y)) (id⊢ 𝓤 _) $
    calls_at ! (framed 𝓤 𝓛.H 𝓜 𝓣) Raw known y (and_then ! (get ! refl) (no_more !)) (λ u.
    use1 𝓛 (later
    (some (λ (p : Ptr).
    ((‵ (flft κ q) ⊛ ‵ (flft [] full_share) ⊛ ‵ ftrue) ⊛ ‵ (RawPtr.own_val p (u ∷ []))) ⊛
    some (λ (ws : Lasts (g.ended T heap ghosts dict spared drops) y.0.0 y.0.3). ‵
    (lasts (g.ended T heap ghosts dict spared drops) y.0.0 y.0.3 ws) ⊛
    ‵ (box_owns block X p b.value))))) (id⊢ 𝓤 _) $
    await ! tt $ pick ! (λ p. split ! $ move ! (1 ∷ []) $ pick ! (λ _. split ! $ drop ! $
    in_a_block ! p (λ p'. box_owns block X p' b.value)
    (fst∗ 𝓤 (never 𝓤) (sem 𝓛 (block (bare (lone X.mir)) null_ptr))) (λ at o e.
    -- [what is owned at the block; the tokens with the pointer]
    move ! (1 ∷ []) $ split ! $ split ! $ move ! (1 ∷ []) $ split ! $ drop ! $ drop ! $ move !
    (1 ∷ []) $ feq_l ! (λ u_is.
    let word = vstruct (vcons (vptr at o) vnil) in let made : Made.Denot =
    record { at = block_ptr at o; value = b.value } in
    lands_as ! (ap only (u_is ∙ ap (λ p'. ptr_val p' ∷ []) e)) refl (tt, tt) $
    sets ! (agg ! (and_then ! (get ! refl) (no_more !))) refl (tt, (tt, tt)) $ returns !
    (look_at ! 0 refl) $ free_all ! refl $
    -- [the token; what is owned at the block]
    move ! (1 ∷ []) $ nothing ! $ feq_i ! (List Val) (vptr at o ∷ [])
    (vptr at o ∷ []) refl $ fjoin ! $ feq_i ! (List Val) (word ∷ [])
    (word ∷ []) refl $ fjoin ! $
    fpack ! (Valss (RawPtr ∷ []))
    (within (shape (RawBox.the_type X)) (block_ptr at o, tt) (word ∷ []))
    (vptr at o ∷ [], tt) $ fjoin ! $
    suffices ! _ (ends_at 𝓛 End stayed c z word made (tt, tt) (tt, tt)) $ says ! refl $
    nothing ! $ nothing ! $ fjoin ! $ join ! $ nothing ! $ move !
    (2 ∷ 0 ∷ []) $ join ! $ join ! $ done !))))))))
