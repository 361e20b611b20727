use Rattle.history_logs.proofs.Words.{refl}
use Rattle.histories.specs.declared.window.Stop.TheVariants as stop
use Rattle.history_logs.proofs.Found.{line_within}
use Rattle.history_logs.proofs.logs.judging.reported_of.Goals as goal

pub refused-requires : goal.refused-requires
refused-requires c =
    let found = rw c.in-Refused.is at c.requires.found in
    record {
      orderly = c.requires.orderly;
      located = c.requires.located;
      stops = found.0;
      window = found.1;
      latest = found.2;
    }

pub line_at-line-requires : goal.line_at-line-requires
line_at-line-requires c =
    line_within _ _ stop.ManyConfigs c.requires.orderly (rw c.in-ManyConfigs.is at c.requires.found)

pub line_at-line-requires-in-ManyOpen : goal.line_at-line-requires-in-ManyOpen
line_at-line-requires-in-ManyOpen c =
    line_within _ _ stop.ManyOpen c.requires.orderly (rw c.in-ManyOpen.is at c.requires.found)

pub returns-in-ManyConfigs : goal.returns-in-ManyConfigs
returns-in-ManyConfigs c = (
  refl,
  (
    c.in-ManyConfigs.index,
    record {
      stops = rw c.in-ManyConfigs.is at c.requires.found;
      there = c.line_at-line.ensures;
    },
  ),
)

pub returns-in-ManyOpen : goal.returns-in-ManyOpen
returns-in-ManyOpen c = (
  refl,
  (
    c.in-ManyOpen.index,
    record {
      stops = rw c.in-ManyOpen.is at c.requires.found;
      there = c.line_at-line-in-ManyOpen.ensures;
    },
  ),
)
