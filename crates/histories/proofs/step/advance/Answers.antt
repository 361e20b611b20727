use Rattle.histories.proofs.step.advance.Goals as goal

pub returns-in-Begin : goal.returns-in-Begin
returns-in-Begin g c = rw c.in-Begin.is c.begin.ensures

pub returns-in-End : goal.returns-in-End
returns-in-End g c = rw c.in-End.is c.end.ensures

pub returns-in-Crash : goal.returns-in-Crash
returns-in-Crash g c = rw c.in-Crash.is c.crash.ensures
