use Rattle.iox2_container.proofs.Prelude.{refl}
use Rattle.iox2_container.proofs.container.comparison.serve.Goals as goal

pub returns-in_ok-entries-in-List-clause-step : goal.returns-in_ok-entries-in-List-clause-step
returns-in_ok-entries-in-List-clause-step g c =
    rw c.in-List.is (record {
      result = c.in_ok-entries-in-List.entries;
      step = (c.in_ok-entries-in-List.ensures.listed, refl);
      reply_is = refl;
    })
