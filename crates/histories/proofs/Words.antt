-- The words of specs and of std that proofs use.
pub use Rattle.std.proofs.Common.{All, AllPairs, Bool, List, None, Option, Some, [], add-one, add-zero, ap, append-nil, append_assoc, arith, cond, drop, eq-eqb, eqb, false, get_or, inl, inr, length, length-append, length-drop, map, refl, replicate, reverse, rules, set, slice_set, subst, suc, sym, take, take-append-drop, take_all, true, zero, ℕ, ◌%◌, ◌*◌, ◌++◌, ◌+◌, ◌-◌, ◌<◌, ◌^◌, ◌↔◌, ◌∙◌, ◌∷◌, ◌≡◌, ◌≢◌, ◌≤◌, ◌⊎◌}
pub use Rattle.std.proofs.Math.ListN.{get_or-append, get_or-map}
pub use Rattle.std.proofs.Math.Seq.{get_or-append_right, get_or-append_seam, split_at, take-append-add, take-append_seam}
pub use Rattle.std.proofs.lemmas.Bool.{cases_eq, cases_lt, cases_order, cond_both, eqb-true, not-false}
pub use Rattle.std.proofs.lemmas.Bool.Decides.{eqb_tells}
pub use Rattle.std.proofs.lemmas.List.{drop_all, get_or-append-add, get_or-drop, get_or-replicate, get_or-set_other, get_or-set_same, get_or_default, get_or_past, length-map, length-replicate, length-set, length-take-le, length_push, map-id, nil_from_length, reverse-append, set-get_or, set-set, take-append-le, take-take, take_more}
pub use Rattle.std.proofs.lemmas.List.Elements.{All-contains, Contains-append_left, Contains-get_or, Contains-push, Contains-push_cases}
pub use Rattle.std.proofs.lemmas.List.Kept.{AllPairs-filter}
pub use Rattle.std.proofs.lemmas.List.Quantifiers.{all_pairs_push}
pub use Rattle.std.proofs.lemmas.Nat.{and_assoc, and_comm}
pub use Rattle.std.proofs.lemmas.Nat.Bits.{bit_at-lt, bit_at-zero, bit_at_above, bit_at_and, bit_at_clear_other, bit_at_clear_same, bit_at_set_other, bit_at_set_same, same_from_bits}
pub use Rattle.std.proofs.lemmas.Option.{get_or_from_slice_get, slice_get-get_or, slice_get_within}
pub use Rattle.std.proofs.lemmas.Result.{IfOk-weaker, on_ok_weaker}
pub use Rattle.std.specs.Int.{bit_at, bit_not, w64}
pub use Rattle.std.specs.List.{Contains, remove}
pub use Rattle.std.specs.Prelude.{filter, not}
pub use Rattle.histories.specs.Advances.{AdvancesIn, Agrees, BeginsAnew, Ends, EndsOpen, IsAdvance, IsCut, IsMadeAlone, IsQuiet, IsSameFront}
pub use Rattle.histories.specs.Frontier.{AreComplete, AreSound, HasManyOpen, HasManyOrders, HasSlot, HaveCalls, IsFollowed, IsFrontOf, IsFrontier, IsIdle, IsLighter, IsSame, IsSound, IsTable, IsWaiting, LeadTo, Leaves, MovesBefore, Path, Runs, cleared, no_path, order_at, order_of, path_more, path_of, put, read}
pub use Rattle.histories.specs.Gathering.{Adds, AreChained, AreEach, AreLaid, AreLaidIn, AreLinked, AreOther, AreTaken, ComesFirst, Finishes, FreesSlot, FromOne, Gathers, GoesFrom, GoesOn, Grows, HasMany, IsBegun, IsBeside, IsClosed, IsClosing, IsCopy, IsDone, IsDropped, IsFirst, IsKnown, IsLaid, IsLaidOut, IsLeft, IsMadeFirst, IsMadeFrom, IsMadeIn, IsNextAt, IsNextBeside, IsNextIn, IsOpened, IsSettled, IsSpot, IsUnderWay, IsUnlinked, MovesFirst, Settles, Spot, TakesSlot, WaitsInNone, chain_at, chain_of, ones, spot_of}
pub use Rattle.histories.specs.Windows.{AgreesOn, AreIdle, AreNeeded, BeginsWindow, CutsAt, GoesOnTo, GoesTo, HasCut, IsBusyFrom, IsFirstOrder, IsFrontAfter, IsMadeNext, IsOrder, IsRest, IsStop, IsStopAt, IsWellFormed, IsWindowOf, LeavesOutIdle, Precedes, VerdictsExclude, call_of, events_of, is_kept, states_of}
pub use Rattle.histories.specs.Histories.{AreAll, AreEnough, CallsAloneAreRuns, EndsAt, Explains, HasEnded, IsAnswered, IsExplained, IsHistory, IsLedTo, IsOpen, IsOver, Leads, MayFollow, StandsAt, begins, times}
pub use Rattle.histories.specs.declared.front.Event.{Event}
pub use Rattle.histories.specs.declared.front.Event.TheVariants.{Begin, Crash, End}
pub use Rattle.histories.specs.declared.front.Advance.{Advance}
pub use Rattle.histories.specs.declared.front.Config.{Config}
pub use Rattle.histories.specs.declared.front.Front.{Front}
pub use Rattle.histories.specs.declared.front.Link.{Link}
pub use Rattle.histories.specs.declared.window.Cut.{Cut}
pub use Rattle.histories.specs.declared.window.Stop.{Stop}
pub use Rattle.histories.specs.declared.window.Window.{Window}
