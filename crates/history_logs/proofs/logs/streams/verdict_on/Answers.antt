use Rattle.history_logs.proofs.logs.streams.verdict_on.Goals as goal

pub returns-in_ok-append_each-in-Witness-clause-text
    : goal.returns-in_ok-append_each-in-Witness-clause-text
returns-in_ok-append_each-in-Witness-clause-text g c =
    rw c.in-Witness.is (
      c.in_ok-verdict-in-Witness.orders.items,
      c.in_ok-verdict-in-Witness.ensures.orders,
      rw (c.in_ok-text-in-Witness.ensures, c.deref.ensures.value)
          at c.in_ok-append_each-in-Witness.ensures,
    )
