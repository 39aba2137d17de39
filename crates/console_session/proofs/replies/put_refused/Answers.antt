use Rattle.console_session.proofs.replies.put_refused.Goals as goal

pub returns-in-NotFound : goal.returns-in-NotFound
returns-in-NotFound g c = rw c.in-NotFound.is (rw c.file.ensures at c.put_missing.ensures)

pub returns-in-BeyondPack : goal.returns-in-BeyondPack
returns-in-BeyondPack g c = rw c.in-BeyondPack.is (rw c.file-in-BeyondPack.ensures at c.put_beyond.ensures)
