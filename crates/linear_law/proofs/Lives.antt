-- The numbers of a client's requests rise, and those of a client that goes on are above all before.
use Rattle.std.proofs.Common.{suc, ◌<◌, ◌≤◌, List, [], ◌∷◌, ap, arith, inl, inr}
use Rattle.definitions.proofs.Lists.{Among-either}
use Rattle.linear_law.proofs.Accounts.{on_reply-used}
use Rattle.linear_law.proofs.Submissions.{asked, IsAsked, IsAsked.kept, IsAsked.given, submission-asked}
use Rattle.linear_law.proofs.Submissions.{same-command}
use Rattle.linear_law.specs.Law.{NoSeqIsGivenAgain}
use Rattle.definitions.specs.Lists.{Among}
use Rattle.definitions.specs.Bytes.{Bytes}
use Rattle.definitions.specs.Frames.{Command, Frame}
use Rattle.definitions.specs.Sessions.{Client, Session, Submitted, Doing, Doing.submitting, Doing.hearing}
use Rattle.definitions.specs.Sessions.{session_behind, session_after, sent_by, requests_in}
use Rattle.definitions.specs.Sessions.{session_at_end, requests_of}
use Rattle.definitions.specs.Frames as frame

-- a request that goes out has the next number, and the last number never falls
record Rises (s : Session) (sent : List Frame) (after : Session) : Type 0 where
  used : s.used ≤ after.used
  above : (c : Command) → Among (frame.request c) sent → (s.used < c.seq) × (c.seq ≤ after.used)

asked-rises : (me : Client) (payload : Bytes) (s : Session) (x : Session × Submitted) → IsAsked me payload s x
    → Rises s (sent_by x.1) x.0
asked-rises me payload s x (kept n) = record { used = omega arith; above = λ c k. absurd k }
asked-rises me payload s x given = record {
  used = omega arith;
  above = λ c k. elim k [
    | inl i ↦ (let e = ap (λ (a : Command). a.seq) (same-command c (asked me (suc s.used) payload) i) in
        (omega (arith, e), omega (arith, e)))
    | inr m ↦ absurd m
  ];
}

doing-rises : (me : Client) (d : Doing) (s : Session) → Rises s (requests_in me d s) (session_after me d s)
doing-rises me (submitting m payload) s = asked-rises me payload s _ (submission-asked me m payload s)
doing-rises me (hearing m f) s =
    record { used = omega (arith, on_reply-used me m f s); above = λ c k. absurd k }

life-rises : (me : Client) (ds : List Doing) (s : Session)
    → Rises s (requests_of me ds s) (session_at_end me ds s)
life-rises me [] s = record { used = omega arith; above = λ c k. absurd k }
life-rises me (d ∷ ds) s =
    let now = doing-rises me d s in
    let later = life-rises me ds (session_after me d s) in
    record {
      used = omega (arith, now.used, later.used);
      above = λ c k. elim (Among-either _ (requests_in me d s) _ k) [
        | inl i ↦ (let h = now.above c i in (h.0, omega (arith, h.1, later.used)))
        | inr i ↦ (let h = later.above c i in (omega (arith, now.used, h.0), h.1))
      ];
    }

pub no-seq-again : NoSeqIsGivenAgain
no-seq-again me first second start behind c d le i j =
    let before = (life-rises me first (session_behind start)).above c i in
    let after = (life-rises me second (session_behind behind)).above d j in
    omega (arith, before.1, le, after.0)
