use Rattle.connection.proofs.Answering.{replies_fault}
use Rattle.connection.proofs.replies.reply_to.Goals as goal

pub returns-in-Bad : goal.returns-in-Bad
returns-in-Bad g c =
    rw c.in-Bad.is (replies_fault g.S.Service.answers c.args.service.now c.in-Bad.fault
    c.reply_to_fault.result.text.now c.reply_to_fault.result.end c.reply_to_fault.ensures.text
    c.reply_to_fault.ensures.end)
