-- What a step that stands sends.
use Rattle.ids.specs.declared.kind.Kind.TheVariants as kind
use Rattle.std.specs.Prelude.{ℕ, ◌-◌, ◌==◌, List, [], ◌∷◌, ◌++◌, map, reverse, take, length, if◌then◌else◌}
use Rattle.std.specs.Prelude.{nat_lt, Option, Some, None, find}
use Rattle.definitions.specs.Frames.{Command, Core, Vote, Certificate, Frame, genesis_core, command_content}
use Rattle.definitions.specs.Frames.{proposal_content, new_view_content, reply_content, fetch_content}
use Rattle.definitions.specs.Frames.{block_content}
use Rattle.definitions.specs.Branches.{Branch, branch_eq}
use Rattle.definitions.specs.Bytes.{Bytes}
use Rattle.ids.specs.Sizes.{leader, client_party}
use Rattle.definitions.specs.Digests.{digest_of, core_of}
use Rattle.definitions.specs.Keyrings.{tag_for, vector_for}
use Rattle.definitions.specs.Histories.{Answer, last_seq, answers, answer_to}
use Rattle.definitions.specs.Chronicles.{Admitted, Step, Step.took_block, Step.noted, Note.got_vote}
use Rattle.definitions.specs.Chronicles.{Note.got_new_view, Note.got_request, Note.got_fetch}
use Rattle.definitions.specs.Chronicles.{Note.timed_out, Note.beat, Note.pruned, Note.seen_view}
use Rattle.definitions.specs.Chronicles.{Note.led_from, Chronicle, taken_blocks}
use Rattle.definitions.specs.Chronicles.{history}
use Rattle.definitions.specs.Frames as frame
use Rattle.definitions.specs.Checks.{Identity, cut}
use Rattle.definitions.specs.States.{view, Justified, qc_high, me, leads, proposed}

-- where a frame goes
pub data To : Type 0 where
  to_all : To
  to_party : ℕ → To

-- a frame and where it goes
abbrev pub Sending : Type 0
Sending = To × Frame

-- the vote for a block
unfoldable pub vote_frame : Identity → Branch → Frame
vote_frame self b = frame.vote (digest_of b)
    (record { voter = me self; vector = vector_for self.sizes self.ring kind.Vote (digest_of b) })

-- the proposal of a block
unfoldable pub proposal_frame : Identity → ℕ → Justified → Frame
proposal_frame self w p =
    let q = cut self p.certificate in
    let content = proposal_content w (core_of p.block) q in
    frame.proposal w (core_of p.block) q (vector_for self.sizes self.ring kind.Proposal content)

-- the announcement of the view
unfoldable pub new_view_frame : Identity → Chronicle → Frame
new_view_frame self c =
    let q = cut self (qc_high self.sizes c).certificate in
    frame.new_view (view self.sizes c) (me self) q
    (vector_for self.sizes self.ring kind.NewView (new_view_content (view self.sizes c) (me self) q))

-- the reply to an entry
unfoldable pub reply_to : Identity → Answer → Sending
reply_to self a =
    let content = reply_content (me self) a.client a.seq a.place a.text in
    let client = client_party a.client in (
      to_party client,
      frame.reply (me self) a.client a.seq a.place a.text (tag_for self.ring kind.Reply client content),
    )

-- a block that was asked for
unfoldable pub block_frame : Identity → ℕ → Admitted → Frame
block_frame self to a =
    let q = cut self a.certificate in
    let content = block_content (me self) (core_of a.branch) q in
    frame.block (me self) (core_of a.branch) q (tag_for self.ring kind.Block to content)

-- the question for a block
unfoldable pub fetch_frame : Identity → ℕ → Bytes → Frame
fetch_frame self to d = frame.fetch (me self) d (tag_for self.ring kind.Fetch to (fetch_content (me self) d))

-- the replies to what a step executed, by place
unfoldable pub new_replies : Identity → Step → Chronicle → List Sending
new_replies self s c =
    let told = answers self.sizes.most_keys (history (s ∷ c)) in
    let before = answers self.sizes.most_keys (history c) in
    map (reply_to self) (reverse (take (length told - length before) told))

-- a block of the tree as it was taken; genesis never was
abbrev pub as_taken : Option Branch → Chronicle → Option Admitted
as_taken None c = None
as_taken (Some b) c = find (λ a. branch_eq a.branch b) (taken_blocks c)

-- the block, where it was taken
abbrev pub supplies : Identity → ℕ → Option Admitted → List Sending
supplies self to None = []
supplies self to (Some a) = (to_party to, block_frame self to a) ∷ []

-- a reply that was given before
abbrev pub again : Identity → Option Answer → List Sending
again self None = []
again self (Some a) = reply_to self a ∷ []

-- the proposal, where there is one
abbrev pub proposes : Identity → ℕ → Option Justified → List Sending
proposes self w None = []
proposes self w (Some p) = (to_all, proposal_frame self w p) ∷ []

-- what a step that stands sends, after this chronicle
unfoldable pub sendings : Identity → Step → Chronicle → List Sending
sendings self (took_block a) c =
    (if a.voted
    then (to_party (leader self.sizes (view self.sizes c)), vote_frame self a.branch) ∷ []
    else [])
    ++ new_replies self (took_block a) c
sendings self (noted (got_vote voter v b)) c = []
sendings self (noted (got_new_view w sender q b)) c =
    if nat_lt (view self.sizes c) (view self.sizes (noted (got_new_view w sender q b) ∷ c))
    then (to_all, new_view_frame self (noted (got_new_view w sender q b) ∷ c)) ∷ []
    else []
sendings self (noted (got_request r)) c =
    if r.seq == last_seq r.client (history c)
    then again self (answer_to self.sizes.most_keys r.client r.seq (history c))
    else []
sendings self (noted (got_fetch to b)) c = supplies self to (as_taken b c)
sendings self (noted timed_out) c = (to_all, new_view_frame self (noted timed_out ∷ c)) ∷ []
sendings self (noted beat) c =
    if leads self c then proposes self (view self.sizes c) (proposed self (noted beat ∷ c)) else []
sendings self (noted (pruned height)) c = []
sendings self (noted (seen_view w sender)) c =
    if nat_lt (view self.sizes c) (view self.sizes (noted (seen_view w sender) ∷ c))
    then (to_all, new_view_frame self (noted (seen_view w sender) ∷ c)) ∷ []
    else []
sendings self (noted (led_from b)) c = []
