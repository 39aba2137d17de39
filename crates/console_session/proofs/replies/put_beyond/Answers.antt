use Rattle.console_session.proofs.replies.put_beyond.Goals as goal

pub returns : goal.returns
returns g c = rw c.bytes.ensures.value at c.reply.ensures
