use Rattle.cap_session.proofs.session.Session.edit.Goals as goal

pub returns-in-Insert-clause-refused : goal.returns-in-Insert-clause-refused
returns-in-Insert-clause-refused c = rw c.in-Insert.is c.insert.ensures.refused

pub returns-in-Delete-clause-refused : goal.returns-in-Delete-clause-refused
returns-in-Delete-clause-refused c = rw c.in-Delete.is c.delete.ensures.refused

pub returns-in-Replace-clause-refused : goal.returns-in-Replace-clause-refused
returns-in-Replace-clause-refused c = rw c.in-Replace.is c.replace.ensures.refused

pub returns-in-Insert-clause-base : goal.returns-in-Insert-clause-base
returns-in-Insert-clause-base c = rw c.in-Insert.is c.insert.ensures.base

pub returns-in-Delete-clause-base : goal.returns-in-Delete-clause-base
returns-in-Delete-clause-base c = rw c.in-Delete.is c.delete.ensures.base

pub returns-in-Replace-clause-base : goal.returns-in-Replace-clause-base
returns-in-Replace-clause-base c = rw c.in-Replace.is c.replace.ensures.base
