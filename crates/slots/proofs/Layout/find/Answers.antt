use Rattle.slots.proofs.Cases.{find_held, find_free, find_full}
use Rattle.slots.proofs.Layout.find.Goals as goal

pub returns-in-Some : goal.returns-in-Some
returns-in-Some c = find_held _ _ _ _ c.seek.ensures c.in-Some.is

pub returns-in-Some-seek : goal.returns-in-Some-seek
returns-in-Some-seek c = find_free _ _ _ _ _ c.seek.ensures c.in-None.is c.seek-in-None.ensures c.in-Some-seek.is

pub returns-in-None-seek : goal.returns-in-None-seek
returns-in-None-seek c = find_full _ _ _ _ c.seek.ensures c.in-None.is c.seek-in-None.ensures c.in-None-seek.is
