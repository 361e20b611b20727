-- How many chunks all ports of a kind can have in use at once.
use Rattle.std.specs.Option.{SomeIff}
use Rattle.std.proofs.lemmas.List.Sums.{sum_by-append}
use Rattle.config_report.proofs.Prelude.{◌≡◌, ◌∙◌, ◌*◌, ◌<◌, ◌≤◌, ◌^◌, ℕ, zero, suc, List, Option, Some, None, sum, ap, refl, sym, arith, all_limits}
use Rattle.iox2_static.proofs.Greatest.{tells}
use Rattle.iox2_static.specs.Chunks.{IsGreatest, ReportsGreatest}

-- no two numbers are the greatest
at_most : (limits : List ℕ) (c d : ℕ) → IsGreatest limits c → IsGreatest limits d → c ≤ d
at_most limits c d g h = h.1 g.0.0 c g.0.1 g.0.2

-- the greatest number is the sum of the limits
is_sum : (limits : List ℕ) (c : ℕ) → IsGreatest limits c → c ≡ sum limits
is_sum limits c g =
    let all : IsGreatest limits (sum limits) = tells limits (Some (sum limits)) refl in
    omega (arith, at_most limits c (sum limits) g all, at_most limits (sum limits) c all g)

-- the limits of all ports
sum-all : (ports : ℕ) (limits : List ℕ) → sum (all_limits ports limits) ≡ ports * sum limits
sum-all zero limits = grind arith
sum-all (suc ports) limits = grind (arith, sum_by-append, sum-all ports limits)

pub all_of_some : (limits : List ℕ) (c ports : ℕ) (all : Option ℕ) → IsGreatest limits c
    → SomeIff all (c * ports < 2 ^ 64) (c * ports) → ReportsGreatest (all_limits ports limits) all
all_of_some limits c ports None g h =
    tells (all_limits ports limits) None
    (let e = is_sum limits c g in let s = sum-all ports limits in grind (arith, e, s, h))
all_of_some limits c ports (Some n) g h =
    tells (all_limits ports limits) (Some n)
    (let e = is_sum limits c g in let s = sum-all ports limits in grind (arith, e, s, h))

pub all_of_none : (limits : List ℕ) → ReportsGreatest (all_limits 0 limits) (Some 0)
all_of_none limits = tells (all_limits 0 limits) (Some 0) refl

-- so many ports need no less than one
no_less : (ports c : ℕ) → 0 < ports → c ≤ ports * c
no_less zero c some = absurd (omega arith)
no_less (suc ports) c some = grind arith

-- a number of chunks that 64 bits do not have stays so where there is a port
pub all_of_many : (limits : List ℕ) (ports : ℕ) → ReportsGreatest limits None → 0 < ports
    → ReportsGreatest (all_limits ports limits) None
all_of_many limits ports (c, g, past) some =
    tells (all_limits ports limits) None
    (let all : sum (all_limits ports limits) ≡ ports * c =
    sum-all ports limits ∙ ap (λ n. ports * n) (sym (is_sum limits c g)) in
    omega (arith, all, past, no_less ports c some))
