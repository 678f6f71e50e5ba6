use Rattle.std.proofs.Common.{length, arith}
use Rattle.client_accept.proofs.Sessions.{is_there}
use Rattle.client_accept.proofs.session.Session.frame_of_text.Goals as goal

pub unwrap-payload-requires : goal.unwrap-payload-requires
unwrap-payload-requires c =
    let few = c.as_slice.ensures.few in
    is_there c.new.result (length c.as_slice.result.now) (omega (arith, few)) c.new.ensures.long
