use Rattle.s360_setup.proofs.telling.tell_failure.Goals as goal

pub returns-in-Word-clause-ok : goal.returns-in-Word-clause-ok
returns-in-Word-clause-ok g c = rw (c.in-Word.is) c.tell.ensures.ok

pub returns-in-StorageSize-clause-ok : goal.returns-in-StorageSize-clause-ok
returns-in-StorageSize-clause-ok g c = rw (c.in-StorageSize.is) c.tell-in-StorageSize.ensures.ok

pub returns-in-Memory-clause-ok : goal.returns-in-Memory-clause-ok
returns-in-Memory-clause-ok g c = rw (c.in-Memory.is) c.tell-in-Memory.ensures.ok
