-- `lend` borrows what lies at the pointer, and the slot follows it.
use Rattle.iox2sd.proofs.Steps.{◌≡◌, ℕ, List, [], ◌∷◌, Option, is_some, true, sym, refl, Fml, fsep, ftrue, flft, full_share, ent, id⊢, never, fact, tables, no, shows, cell_at, lone, RattleType, Valss, RawPtr, Ptr, block_ptr, ptr_val, in_a_block, MutRef, mut_vals, mut_Tells, plain, nothing, heard, peeks, opens, shape, within, Stays, stay_dropped, walk_of, says, ends_at, named, Val, vptr, vstruct, vcons, vnil, alloc_all, pass_all, free_all, look_at, get, sets, through, env, proved, bare, sem, block, ‵, raw, ◌⊛◌, some, later, ◌$◌, ◌∵◌, !, qed, move, keep, drop, use1, split, join, fsplit, fsplit3, fjoin, fpack, feq_i, pick, await, rewrite, at_ret, suffices, frame, group, done, whole, sub, look_in, enter, of_opd, load, stop, fld, first, blocks, exec, returns, after, the_some}
use seplogic.Ra.Ura.{Ura}
use base.Fml.{Lft, GName, Share}
use base.Logic.{sep}
use types.ByLocal.{sets_last}
use types.Logic.{Logic}
use types.Run.{addr}
use denote.Follow.{follows, lends_Part}
use denote.Memory.{mem, part_at, part_of}
use denote.RattleType.{owns}
use denote.Signature.{mut_ref_to}
use denote.Triple.Walked.{Goes-spent_ref}
use Rattle.std.specs.Ptr.{points_to}
use Rattle.iox2_dynamic.specs.Service.{Service}
use Rattle.iox2_dynamic.specs.contracts.dynamic_config.service.DynamicConfig as DynamicConfig
use Rattle.iox2sd.proofs.service.Slot.TheLaws as slot
use Rattle.iox2sd.proofs.service.Slot.lend.Code as code
use Rattle.iox2sd.proofs.service.Slot.lend.Statement.{statement}
use Rattle.iox2sd.specs.Lending.{with_service}
use Rattle.iox2sd.specs.Slots.{slot_owns}
use Rattle.iox2sd.specs.contracts.service.Slot as Slot
use Rattle.iox2sd.specs.contracts.service.Slot.lend as f

abbrev R : RattleType
R = DynamicConfig.the_row

abbrev word : Ptr → Val
word p = vstruct (vcons (ptr_val p) vnil)

abbrev stayed : Stays f.ended.signature.params f.ended.kept
stayed = (stay_dropped (mut_ref_to (0 ∷ []) tt (plain (λ _. Slot.the_row))) no, tt)

-- all of the slot but its service
abbrev Rest : ℕ → ℕ → Ptr → ℕ → ℕ → Fml
Rest rb ro p b o =
    fsep (block (bare (lone R.mir)) p)
    (cell_at full_share Slot.the_row.mir (word (block_ptr b o) ∷ []) rb ro)

back : {M : Type 1} {𝓤 : Ura M} (𝓛 : Logic 𝓤) (h : Slot.the_row.Denot) (rb ro b o : ℕ)
    → h.at ≡ block_ptr b o → (w : R.Denot)
    → ent 𝓤 (sep 𝓤 (sem 𝓛 ((mem R).own_at w b o)) (sem 𝓛 (Rest rb ro h.at b o)))
    (sem 𝓛 ((mem Slot.the_row).own_at (with_service h w) rb ro))
unfolding part_of
back 𝓛 h rb ro b o e w =
    qed 𝓛 (‵ (part_at R full_share w b o) ∷ ‵ (Rest rb ro h.at b o) ∷ []) ∵
    move ! (1 ∷ []) $ fsplit ! $
    move ! (2 ∷ []) $ rewrite ! 0 (λ (p : Ptr). ‵ (points_to R p w)) (sym e) refl $ fjoin ! $
    rewrite ! 1 (λ (p : Ptr). ‵ (cell_at full_share Slot.the_row.mir (word p ∷ []) rb ro)) (sym e)
    refl $
    nothing ! $ feq_i ! (List Val) (ptr_val h.at ∷ []) (ptr_val h.at ∷ []) refl $ fjoin ! $ feq_i !
    (List Val) (word h.at ∷ []) (word h.at ∷ []) refl $ fjoin ! $
    fpack ! (Valss (RawPtr ∷ [])) (within (shape Slot.the_type) (h.at, tt) (word h.at ∷ []))
    (ptr_val h.at ∷ [], tt) $ fjoin ! $
    move ! (1 ∷ 0 ∷ []) $ fjoin ! $
    fpack ! (List Val) (λ us. fsep (cell_at full_share Slot.the_row.mir us rb ro)
    (Slot.the_row.own_val (with_service h w) us)) (word h.at ∷ []) $ done !

pub lend_spec : {M : Type 1} → statement M
lend_spec 𝓤 𝓛 𝓜 𝓡 wired =
    let c = f.clauses 𝓛 𝓜.mem 𝓡.returns in let W = walk_of 𝓛 f.ended stayed c in let 𝓣 =
    tables 𝓤 𝓛.H 𝓜 𝓡 𝓡.env in
    proved 𝓛 f.ended stayed c 𝓜 𝓡 (Goes-spent_ref 𝓛 1 (0 ∷ []) tt (plain (λ _. Slot.the_row)), tt)
    f.Key.name code.function (code.unfolded 𝓤 𝓛.H 𝓜 𝓡 wired) (λ κs. (mut_vals, tt))
    (λ κs. (mut_Tells (named 0) κs.0 Slot.the_row, tt))
    (λ κs qs bounds a gh are.
    let rb : ℕ = a.0.ref_ptr.0 in let ro : ℕ = a.0.ref_ptr.1 in let κ : Lft = κs.0 in
    let q : Share = qs.0 in let h = a.0.now in let γ : GName = a.0.ghost_name in
    let y : W.Ghost = ((κs, qs, bounds, a, (mut_vals a.0, tt)), gh) in
    qed 𝓛 (((‵ (flft κ q) ⊛ ‵ ftrue) ⊛ ‵
    (owns (MutRef (named 0) κ Slot.the_row ∷ []) (a.0, tt) (mut_vals a.0, tt)))
    ∷ raw (fact 𝓤 (is_some h.service ≡ true)) ∷ []) ∵
    move ! (1 ∷ []) $ heard ! _ (λ some_is. let found = the_some h.service some_is in
    let x : R.Denot = found.0 in
    split ! $ enter ! 𝓣.C 𝓣.Λ code.function (vptr rb ro ∷ []) (W.post y) $ alloc_all !
    (λ l. pass_all ! refl ((tt, tt), tt) $
    move ! (1 ∷ []) $ fsplit ! $ fsplit3 ! $ drop ! $ move ! (3 ∷ []) $ split ! $ move !
    (2 ∷ 3 ∷ 0 ∷ []) $ opens ! tt Slot.the_row {h = h} rb ro
    (λ us. move ! (1 ∷ []) $ peeks ! Slot.the_row _ (shows 𝓛 Slot.the_row) h us
    (λ is. fsplit ! $ drop ! $ rewrite ! 0
    (λ (there : Option Service). ‵ (slot_owns h.at there)) found.1 refl $ rewrite ! 1
    (λ (ws : List Val). ‵ (cell_at full_share Slot.the_row.mir ws rb ro))
    (slot.lowers.val_is h us is) refl $ fsplit ! $
    -- [the service; the permission; the slot's cell; the open borrow, in three entries]
    in_a_block ! h.at (λ p. points_to R p x) (id⊢ 𝓤 (never 𝓤)) (λ b o e.
    rewrite ! 2 (λ (p : Ptr). ‵ (cell_at full_share Slot.the_row.mir (word p ∷ []) rb ro)) e refl $
    first ! $ blocks ! $ sets !
    (of_opd !
    (load ! (through ! refl (fld ! refl (stop !))) (look_in ! 2 (sub ! 0 refl (whole !)))))
    refl (tt, tt) $
    sets ! (of_opd ! (get ! refl)) refl (tt, tt) $
    sets_last ! (addr ! (through ! refl (stop !))) refl (tt, tt) $
    exec ! 𝓣.C 𝓣.Λ (env code.function.locals l) (after 1 (code.function).body)
    (at_ret _ (W.post y)) $
    sets ! (of_opd ! (get ! refl)) refl (tt, tt) $
    move ! (1 ∷ 2 ∷ []) $ fjoin ! $ move ! (2 ∷ 3 ∷ 4 ∷ 1 ∷ 0 ∷ []) $ group ! 5 $
    use1 𝓛 (later
    (some (λ (γ' : GName). (‵ ((MutRef (named 0) κ R).own_val
    (record { ref_ptr = (b, o); ghost_name = γ'; now = x }) (vptr b o ∷ []))) ⊛ ‵ (flft κ q) ⊛ ‵
    (follows Slot.the_row R γ γ' (with_service h)))))
    (lends_Part 𝓛 Slot.the_row R (with_service h) (named 0) κ q rb ro b o γ
    (sem 𝓛 (Rest rb ro h.at b o)) (back 𝓛 h rb ro b o e) (Slot.the_row.coded.code h)
    (Slot.the_row.coded.code h) x) $
    await ! tt $ pick ! (λ γ'. split ! $ move ! (1 ∷ []) $ split ! $
    -- [the token; how the slot follows; the reference]
    returns ! (look_at ! 0 refl) $ free_all ! refl $ keep ! (2 ∷ 0 ∷ 1 ∷ []) $
    suffices ! _
    (ends_at 𝓛 f.ended stayed c y (vptr b o)
    (record { ref_ptr = (b, o); ghost_name = γ'; now = x }) (tt, tt) (tt, tt)) $
    nothing ! $ nothing ! $ fjoin ! $ join ! $ nothing ! $ move ! (2 ∷ 0 ∷ []) $ join ! $ join ! $
    frame ! $ says ! found.1 $ done !)))))))
