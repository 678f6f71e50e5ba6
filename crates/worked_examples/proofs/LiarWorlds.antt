-- The run with a liar round by round: its frames, and what its parties hold after each round.
use Rattle.std.proofs.Common.{ℕ, ◌+◌, ◌-◌, ◌++◌, true, false, List, [], ◌∷◌, length, replicate, None}
use Rattle.ids.specs.Sizes.{client_party}
use Rattle.definitions.specs.Bytes.{Bytes}
use Rattle.definitions.specs.Frames.{Core, Command, Certificate, Vote, Frame}
use Rattle.definitions.specs.Frames as frame
use Rattle.definitions.specs.Branches.{Branch}
use Rattle.definitions.specs.Histories.{answer_in}
use Rattle.definitions.specs.Chronicles.{Chronicle, Step, Step.took_block, Step.noted, Note.got_vote}
use Rattle.definitions.specs.Chronicles.{Note.got_request, Note.beat}
use Rattle.definitions.specs.Sendings.{Sending, To.to_all, To.to_party, reply_to}
use Rattle.definitions.specs.Replicas.{Replica, Standing.running}
use Rattle.definitions.specs.Sessions.{Session}
use Rattle.definitions.specs.Worlds.{Sent, self_of}
use Rattle.worked_examples.specs.Runs.{sizes}
use Rattle.worked_examples.specs.Replicas.{payload}
use Rattle.worked_examples.specs.Liar.{start, stored, not_stored, told}
use Rattle.worked_examples.proofs.LiarTags as tags
use Rattle.worked_examples.proofs.Snapshots.{Snapshot}

-- the command as its client sends it
abbrev pub command : Command
command = record { client = 0; seq = 1; payload = payload; vector = tags.request }

-- ---- rounds

-- a block that is proposed with a certificate of the one below, and the vectors of the frames about it
pub record Round : Type 0 where
  pub branch : Branch
  pub core : Core
  pub certificate : Certificate
  pub counted : List ℕ  -- the voters of the certificate
  pub digest : Bytes
  pub proposal : Bytes
  pub by_0 : Bytes  -- the vectors of the votes
  pub by_1 : Bytes
  pub by_liar : Bytes

abbrev pub round1 : Round
round1 = record {
  branch = record { commands = command ∷ []; justify = 0 } ∷ [];
  core = record { parent = tags.digest0; height = 1; justify_height = 0; commands = command ∷ [] };
  certificate = record { digest = tags.digest0; votes = [] };
  counted = [];
  digest = tags.digest1;
  proposal = tags.proposal1;
  by_0 = tags.vote1_0;
  by_1 = tags.vote1_1;
  by_liar = tags.vote1_3;
}

abbrev vote_of : ℕ → Bytes → Vote
vote_of voter vector = record { voter = voter; vector = vector }

-- the votes of a round
abbrev certificate_of : Round → Certificate
certificate_of r =
    record { digest = r.digest; votes = vote_of 0 r.by_0 ∷ vote_of 1 r.by_1 ∷ vote_of 3 r.by_liar ∷ [] }

-- an empty block over that of the round before, which it justifies
abbrev round_over : Round → (digest proposal by_0 by_1 by_liar : Bytes) → Round
round_over r digest proposal by_0 by_1 by_liar = record {
  branch = record { commands = []; justify = length r.branch } ∷ r.branch;
  core = record {
    parent = r.digest;
    height = length r.branch + 1;
    justify_height = length r.branch;
    commands = [];
  };
  certificate = certificate_of r;
  counted = 0 ∷ 1 ∷ 3 ∷ [];
  digest = digest;
  proposal = proposal;
  by_0 = by_0;
  by_1 = by_1;
  by_liar = by_liar;
}

abbrev pub round2 : Round
round2 = round_over round1 tags.digest2 tags.proposal2 tags.vote2_0 tags.vote2_1 tags.vote2_3

abbrev pub round3 : Round
round3 = round_over round2 tags.digest3 tags.proposal3 tags.vote3_0 tags.vote3_1 tags.vote3_3

abbrev pub round4 : Round
round4 = round_over round3 tags.digest4 tags.proposal4 tags.vote4_0 tags.vote4_1 tags.vote4_3

-- three more, which come after the receipt; no vote of the liar's comes in the last one
abbrev pub round5 : Round
round5 = round_over round4 tags.digest5 tags.proposal5 tags.vote5_0 tags.vote5_1 tags.vote5_3

abbrev pub round6 : Round
round6 = round_over round5 tags.digest6 tags.proposal6 tags.vote6_0 tags.vote6_1 tags.vote6_3

abbrev pub round7 : Round
round7 = round_over round6 tags.digest7 tags.proposal7 tags.vote7_0 tags.vote7_1 []

-- ---- frames

abbrev pub vote_by : ℕ → Round → Bytes → Frame
vote_by voter r vector = frame.vote r.digest (vote_of voter vector)

abbrev pub reply_by : ℕ → Bytes → Bytes → Frame
reply_by replica text tag = frame.reply replica 0 1 1 text tag

abbrev pub sent_in : ℕ → ℕ → Sending → Sent
sent_in event sender s = record { event = event; sender = sender; to = s.0; frame = s.1 }

abbrev proposed : ℕ → Round → Sent
proposed event r = sent_in event 0 (to_all, frame.proposal 0 r.core r.certificate r.proposal)

-- replicas 0 and 1 vote in the two events after the proposal
abbrev votes_sent : ℕ → Round → List Sent → List Sent
votes_sent event r replies =
    sent_in (event + 1) 0 (to_party 0, vote_by 0 r r.by_0)
    ∷ sent_in (event + 2) 1 (to_party 0, vote_by 1 r r.by_1) ∷ replies

abbrev asked : Sent
asked = sent_in 1 (client_party 0) (to_all, frame.request command)

-- the frames that are sent up to each round
abbrev sent1 : List Sent
sent1 = asked ∷ proposed 3 round1 ∷ votes_sent 3 round1 []

abbrev sent2 : List Sent
sent2 = sent1 ++ proposed 9 round2 ∷ votes_sent 9 round2 []

abbrev sent3 : List Sent
sent3 = sent2 ++ proposed 15 round3 ∷ votes_sent 15 round3 []

-- and in the last one, with the replies of replicas 0 and 1
abbrev sent4 : Sending → Sending → List Sent
sent4 reply_0 reply_1 =
    sent3 ++ proposed 21 round4
    ∷ sent_in 22 0 (to_party 0, vote_by 0 round4 round4.by_0) ∷ sent_in 22 0 reply_0
    ∷ sent_in 23 1 (to_party 0, vote_by 1 round4 round4.by_1) ∷ sent_in 23 1 reply_1 ∷ []

-- ---- what parties hold

abbrev pub took : Round → Step
took r = took_block (record {
  branch = r.branch;
  core = r.core;
  certificate = r.certificate;
  counted = r.counted;
  senders = [];
  clear = true;
  new = true;
  voted = true;
})

-- the leader's steps of a round
abbrev leads : Round → Chronicle → Chronicle
leads r earlier =
    noted (got_vote 3 r.by_liar r.branch) ∷ noted (got_vote 1 r.by_1 r.branch)
    ∷ noted (got_vote 0 r.by_0 r.branch) ∷ took r ∷ noted beat ∷ earlier

abbrev led1 : Chronicle
led1 = leads round1 (noted (got_request command) ∷ [])

abbrev led3 : Chronicle
led3 = leads round3 (leads round2 led1)

abbrev followed3 : Chronicle
followed3 = took round3 ∷ took round2 ∷ took round1 ∷ []

abbrev runs_with : Chronicle → Replica
runs_with c = record { chronicle = c; standing = running }

abbrev waiting : Session
waiting = record { used = 1; waiting = true; tally = [] }

-- replicas 0 and 1 have these chronicles before this event, and no event was refused
abbrev snapshot_at : (now : ℕ) → (c0 c1 : Chronicle) → List Sent → Snapshot
snapshot_at now c0 c1 sent = record {
  r0 = runs_with c0;
  r1 = runs_with c1;
  r2 = runs_with [];
  client = waiting;
  sent = sent;
  receipts = [];
  answers = replicate (now - 1) None;
  now = now;
}

-- after the request
abbrev pub requested : Snapshot
requested = snapshot_at 3 (noted (got_request command) ∷ []) [] (asked ∷ [])

-- after each round
abbrev pub after1 : Snapshot
after1 = snapshot_at 9 led1 (took round1 ∷ []) sent1

abbrev pub after2 : Snapshot
after2 = snapshot_at 15 (leads round2 led1) (took round2 ∷ took round1 ∷ []) sent2

abbrev pub after3 : Snapshot
after3 = snapshot_at 21 led3 followed3 sent3

-- after the last proposal, to which replicas 0 and 1 reply so
abbrev pub decided_with : Sending → Sending → Snapshot
decided_with reply_0 reply_1 =
    snapshot_at 24 (took round4 ∷ noted beat ∷ led3) (took round4 ∷ followed3) (sent4 reply_0 reply_1)

-- the replies, as the definitions say, and as they are
abbrev pub reply_of : ℕ → Sending
reply_of replica =
    reply_to (self_of start replica)
    (answer_in sizes.most_keys (record { client = 0; seq = 1; payload = payload }) [])

abbrev pub reply_0 : Sending
reply_0 = (to_party (client_party 0), reply_by 0 stored tags.reply_0)

abbrev pub reply_1 : Sending
reply_1 = (to_party (client_party 0), reply_by 1 stored tags.reply_1)

-- after the last event
abbrev pub accepted : Snapshot
accepted = record {
  r0 = runs_with (took round4 ∷ noted beat ∷ led3);
  r1 = runs_with (took round4 ∷ followed3);
  r2 = runs_with [];
  client =
      record { used = 1; waiting = false; tally = told 1 stored ∷ told 0 stored ∷ told 3 not_stored ∷ [] };
  sent = sent4 reply_0 reply_1;
  receipts = record { event = 26; client = 0; receipt = record { seq = 1; place = 1; text = stored } } ∷ [];
  answers = replicate 26 None;
  now = 27;
}

-- ---- after the receipt

abbrev led4 : Chronicle
led4 = leads round4 led3

abbrev led5 : Chronicle
led5 = leads round5 led4

abbrev followed5 : Chronicle
followed5 = took round5 ∷ took round4 ∷ followed3

-- the client waits for nothing
abbrev answered_at : (now : ℕ) → (c0 c1 : Chronicle) → List Sent → Snapshot
answered_at now c0 c1 sent = record {
  r0 = runs_with c0;
  r1 = runs_with c1;
  r2 = runs_with [];
  client = accepted.client;
  sent = sent;
  receipts = accepted.receipts;
  answers = replicate (now - 1) None;
  now = now;
}

abbrev sent5 : List Sent
sent5 = accepted.sent ++ proposed 30 round5 ∷ votes_sent 30 round5 []

abbrev sent6 : List Sent
sent6 = sent5 ++ proposed 36 round6 ∷ votes_sent 36 round6 []

-- after each of these rounds
abbrev pub after5 : Snapshot
after5 = answered_at 33 (took round5 ∷ noted beat ∷ led4) followed5 sent5

abbrev pub after6 : Snapshot
after6 = answered_at 39 (took round6 ∷ noted beat ∷ led5) (took round6 ∷ followed5) sent6

abbrev pub after7 : Snapshot
after7 =
    answered_at 45 (took round7 ∷ noted beat ∷ leads round6 led5) (took round7 ∷ took round6 ∷ followed5)
    (sent6 ++ proposed 42 round7 ∷ votes_sent 42 round7 [])
