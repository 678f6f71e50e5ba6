-- Which blocks a replica asks others for: on whose account, when, of whom, and what came. This is the project's own
-- rule of the running server. No theorem rests on it: a question that isn't asked is a frame that is lost.
use Rattle.std.specs.Prelude.{ℕ, ◌≡◌, ◌==◌, ◌+◌, ◌-◌, ◌*◌, ◌/◌, ◌^◌, ◌<◌, ◌≤◌, ◌&&◌, ◌||◌, not, min, max, Bool, true, false}
use Rattle.std.specs.Prelude.{List, [], ◌∷◌}
use Rattle.std.specs.Prelude.{◌++◌, count_by, filter, find, length, map, sum_by, All, slice_get, Option, Some, None}
use Rattle.std.specs.Prelude.{is_none, is_some}
use Rattle.std.specs.Prelude.{nat_lt, nat_le, bytes_eq, if◌then◌else◌}
use Rattle.std.specs.Option.{option_and_then, option_map_or}
use Rattle.std.specs.Prelude.{option_map}
use Rattle.std.specs.List.{list_any}
use Rattle.ids.specs.declared.fault.Fault.{Fault}
use Rattle.ids.specs.declared.fault.Fault.TheVariants as fault
use Rattle.asking.specs.declared.ask.Ask.{Ask}
use Rattle.asking.specs.declared.block_copy.BlockCopy.{BlockCopy}
use Rattle.tuning.specs.declared.asking.TheConstants.{MOST_ASK_AGAIN_MILLIS, MOST_ASKED_FOR, MOST_COPY_BYTES}
use Rattle.tuning.specs.declared.asking.TheConstants.{MOST_ASKED_AHEAD, MOST_QUESTION_PAUSE_MILLIS}
use Rattle.tuning.specs.declared.asking.TheConstants.{MOST_TIMES_ASKED, PAUSE_PART, QUESTION_PACE}
use Rattle.tuning.specs.declared.asking.TheConstants.{QUESTION_PACE_MILLIS, QUESTION_PAUSE_MILLIS}

-- A block that lacks. Times are milliseconds.
pub record Question : Type 0 where
  pub block : List ℕ
  pub payer : ℕ  -- whose frame made the replica ask
  pub whom : Option ℕ  -- whom the first question goes to; None for all, as each later one
  pub times : ℕ  -- how often it was asked
  pub asked : Option ℕ  -- when it was asked first, while no answer came
  pub due : ℕ  -- when the next question may go out
  pub behind : Option (List ℕ)  -- the block for which its copies wait
  pub copies : List BlockCopy  -- one of each sender at most

-- since when questions are counted, how many there were, and for how long an answer is awaited at first
pub record Pace : Type 0 where
  pub since : ℕ
  pub asked : ℕ
  pub wait : ℕ

-- how many replicas there are; what lacks, oldest first; whose turn it is to have a question asked on its account
pub record Asking : Type 0 where
  pub replicas : ℕ
  pub questions : List Question
  pub turn : ℕ
  pub pace : Pace

-- ---- copies

-- the copies of one sender
abbrev pub is_from : ℕ → BlockCopy → Bool
is_from sender copy = copy.sender == sender

-- the copies with one more, which takes the place of its sender's
abbrev pub with_copy : (sender : ℕ) → (frame : List ℕ) → List BlockCopy → List BlockCopy
with_copy sender frame copies =
    filter (λ copy. not (is_from sender copy)) copies ++ record { sender = sender; frame = frame } ∷ []

-- how many bytes copies have
abbrev pub size_of : List BlockCopy → ℕ
size_of copies = sum_by (λ copy. length copy.frame) copies

-- ---- questions

abbrev pub is_for : List ℕ → Question → Bool
is_for block q = bytes_eq q.block block

-- whether a block was asked for, and is still wanted
abbrev pub is_wanted : List ℕ → List Question → Bool
is_wanted block qs = list_any (is_for block) qs

-- the questions, where that for one block is changed
abbrev pub changed : List ℕ → (Question → Question) → List Question → List Question
changed block change qs = map (λ q. if is_for block q then change q else q) qs

-- on whose account it is
abbrev pub is_paid_by : ℕ → Question → Bool
is_paid_by payer q = q.payer == payer

-- a replica's account has room for one more block
abbrev pub has_room : (n : ℕ) → (payer : ℕ) → List Question → Bool
has_room n payer qs = nat_lt payer n && nat_lt (count_by (is_paid_by payer) qs) MOST_ASKED_FOR

-- how many bytes of copies are kept on a replica's account
abbrev pub kept_for : (payer : ℕ) → List Question → ℕ
kept_for payer qs = sum_by (λ q. if is_paid_by payer q then size_of q.copies else 0) qs

-- a question that wasn't asked yet
abbrev pub new_question : (block : List ℕ) → (payer : ℕ) → (whom : Option ℕ) → (now : ℕ) → Question
new_question block payer whom now = record {
  block = block;
  payer = payer;
  whom = whom;
  times = 0;
  asked = None;
  due = now;
  behind = None;
  copies = [];
}

-- one more block lacks, where it isn't wanted yet
abbrev pub needing : (block : List ℕ) → (payer : ℕ) → (whom : Option ℕ) → (now : ℕ) → List Question → List Question
needing block payer whom now qs =
    if is_wanted block qs then qs else qs ++ new_question block payer whom now ∷ []

-- a time so much later
abbrev pub later : (now millis : ℕ) → ℕ
later now millis = min (now + millis) (2 ^ 64 - 1)

-- for how long the answer to a question is awaited that was asked so often: as many times as long as to the first one
abbrev pub pause_of : (wait times : ℕ) → ℕ
pause_of wait times = min (min (wait * times) (2 ^ 64 - 1)) MOST_ASK_AGAIN_MILLIS

-- what is asked: at first who is named, then all
abbrev pub ask_of : Question → Ask
ask_of q = record {
  block = q.block;
  to = if nat_lt 0 q.times then None else q.whom;
  is_again = nat_lt 0 q.times;
}

-- a question was asked
abbrev pub asked_at : (now wait : ℕ) → Question → Question
asked_at now wait q = record q {
  times = q.times + 1;
  asked = if q.times == 0 then Some now else q.asked;
  due = later now (pause_of wait (q.times + 1));
}

-- what one was asked, or is to be asked first, is asked of all at once, unless it was
abbrev pub hastened : (now : ℕ) → Question → Question
hastened now q = if nat_le q.times 1 && is_some q.whom then record q { whom = None; due = now } else q

-- an answer came, and waits for a block
abbrev pub waiting_for : List ℕ → Question → Question
waiting_for parent q = record q { asked = None; behind = Some parent }

-- whether its copies wait for this block
abbrev pub waits_for : List ℕ → Question → Bool
waits_for parent q = option_map_or (λ block. bytes_eq block parent) q.behind false

-- they wait for this block no longer
abbrev pub released : List ℕ → Question → Question
released parent q = if waits_for parent q then record q { behind = None } else q

-- its copies wait for no block any more
abbrev pub freed : Question → Question
freed q = record q { behind = None }

-- nothing is wanted on a replica's account any more, and no copies wait: those on others' accounts may wait for one of these
abbrev pub forgotten : (payer : ℕ) → List Question → List Question
forgotten payer qs = map freed (filter (λ q. not (is_paid_by payer q)) qs)

-- one copy more
abbrev pub with_copy_of : (sender : ℕ) → (frame : List ℕ) → Question → Question
with_copy_of sender frame q = record q { copies = with_copy sender frame q.copies }

-- a question is closed, and what waited for its block waits no longer
abbrev pub closed : List ℕ → List Question → List Question
closed block qs = map (released block) (filter (λ q. not (is_for block q)) qs)

-- whether a frame of so many bytes has room on the account of the block that it brings
abbrev pub fits : (block : List ℕ) → (bytes : ℕ) → List Question → Bool
fits block bytes qs =
    option_map_or (λ q. nat_le (kept_for q.payer qs + bytes) MOST_COPY_BYTES) (find (is_for block) qs) false

-- Whether one may wait for the block below it: those that do take half of an account at most, so that copies of what comes
-- next have room.
abbrev pub may_wait : (block : List ℕ) → (bytes : ℕ) → List Question → Bool
may_wait block bytes qs =
    option_map_or (λ q. nat_le (kept_for q.payer qs + bytes) (MOST_COPY_BYTES / 2)) (find (is_for block) qs) false

-- a replica's account has room for one more block of those that are asked for ahead
abbrev pub has_room_ahead : (payer : ℕ) → List Question → Bool
has_room_ahead payer qs = nat_lt (count_by (is_paid_by payer) qs) MOST_ASKED_AHEAD

-- the first block whose copies wait for this one
abbrev pub above : List ℕ → List Question → Option (List ℕ)
above block qs = option_map (λ q. q.block) (find (waits_for block) qs)

-- why a copy isn't kept, if for a reason: its block isn't wanted or its sender is no replica, or there is no room
abbrev pub why_no_copy : Asking → (block : List ℕ) → (sender bytes : ℕ) → Option Fault
why_no_copy a block sender bytes =
    if is_wanted block a.questions && nat_lt sender a.replicas then
    (if fits block bytes a.questions then None else Some fault.Full)
    else Some fault.NotMine

-- ---- what is asked next

-- the time for its next question has come, and its copies wait for no block
abbrev pub is_ripe : (now : ℕ) → Question → Bool
is_ripe now q = nat_le q.due now && is_none q.behind

abbrev pub is_due : (now : ℕ) → Question → Bool
is_due now q = is_ripe now q && nat_lt q.times MOST_TIMES_ASKED

-- it was asked in vain as often as may be
abbrev pub is_vain : (now : ℕ) → Question → Bool
is_vain now q = is_ripe now q && nat_le MOST_TIMES_ASKED q.times

-- the oldest that was asked in vain is closed
abbrev pub given_up : (now : ℕ) → List Question → List Question
given_up now qs = option_map_or (λ q. closed q.block qs) (find (is_vain now) qs) qs

-- all questions, where that was done
abbrev pub having_given_up : (now : ℕ) → Asking → Asking
having_given_up now a = record a { questions = given_up now a.questions }

-- by so many places a replica is behind the one whose turn it is, of n
abbrev pub places_behind : (n turn payer : ℕ) → ℕ
places_behind n turn payer = if nat_le turn payer then payer - turn else payer + n - turn

-- the replica behind one, of n
abbrev pub one_behind : (n payer : ℕ) → ℕ
one_behind n payer = if nat_lt (payer + 1) n then payer + 1 else 0

-- a question comes before another: its payer's turn is earlier, or that's the same, and it was due earlier
abbrev pub comes_before : (n turn : ℕ) → Question → Question → Bool
comes_before n turn p q =
    let own = places_behind n turn p.payer in
    let others = places_behind n turn q.payer in
    nat_lt own others || ((own == others) && nat_lt p.due q.due)

-- It is the question that is asked next: it's due, and none that is comes before it.
pub record IsNext (a : Asking) (now place : ℕ) (q : Question) : Type 0 where
  pub at : slice_get a.questions place ≡ Some q
  pub due : is_due now q ≡ true
  pub first : (k : ℕ) (other : Question) → slice_get a.questions k ≡ Some other → is_due now other ≡ true
      → comes_before a.replicas a.turn other q ≡ false

-- none is due
abbrev pub NoneDue : Asking → (now : ℕ) → Type 0
NoneDue a now = (k : ℕ) (q : Question) → slice_get a.questions k ≡ Some q → is_due now q ≡ false

-- for how many blocks questions may go out in the time that is counted, among n replicas: all of them may be asked
abbrev pub blocks_among : (n : ℕ) → ℕ
blocks_among n = QUESTION_PACE / n

-- a question may go out: in the time that is counted there were few, or it is over
abbrev pub allows : (most now : ℕ) → Pace → Bool
allows most now pace = nat_le QUESTION_PACE_MILLIS (now - pace.since) || nat_lt pace.asked most

-- one more went out
abbrev pub counted : (now : ℕ) → Pace → Pace
counted now pace =
    if nat_le QUESTION_PACE_MILLIS (now - pace.since) then record pace { since = now; asked = 1 }
    else record pace { asked = pace.asked + 1 }

-- For how long an answer is awaited behind one that took so many milliseconds: twice as long. It becomes less by a part
-- at a time, and lies between two bounds.
abbrev pub wait_after : (took wait : ℕ) → ℕ
wait_after took wait =
    min (max (max (min (took * 2) (2 ^ 64 - 1)) (wait - wait / PAUSE_PART)) QUESTION_PAUSE_MILLIS) MOST_QUESTION_PAUSE_MILLIS

-- when a block was asked for first, while no answer came
abbrev pub asked_for : (block : List ℕ) → List Question → Option ℕ
asked_for block qs = option_and_then (λ q. q.asked) (find (is_for block) qs)

-- A block was taken, and with it what it waits for. It tells how long an answer takes.
abbrev pub taken : (now : ℕ) → (block : List ℕ) → Asking → Asking
taken now block a = record a {
  questions = closed block a.questions;
  pace = option_map_or (λ asked. record a.pace { wait = wait_after (now - asked) a.pace.wait })
      (asked_for block a.questions) a.pace;
}

-- One question is asked: the next one, of whom it says. The turn is that of the replica behind its payer.
pub record Asks (old : Asking) (now : ℕ) (ask : Ask) (new : Asking) : Type 0 where
  pub allowed : allows (blocks_among old.replicas) now old.pace ≡ true
  pub place : ℕ
  pub question : Question
  pub next : IsNext old now place question
  pub ask_is : ask ≡ ask_of question
  pub is : new ≡ record old {
    questions = changed question.block (asked_at now old.pace.wait) old.questions;
    turn = one_behind old.replicas question.payer;
    pace = counted now old.pace;
  }

-- ---- what always holds

-- each copy is of another sender, which is a replica
abbrev pub AreDistinct : (n : ℕ) → List BlockCopy → Type 0
AreDistinct n copies = (sender : ℕ) → count_by (is_from sender) copies ≤ (if nat_lt sender n then 1 else 0)

-- Each block is asked for once. A replica's account has no more than its part of questions and of bytes; nobody else
-- has an account. Copies are of distinct replicas. Questions in the time that is counted are few.
pub record IsBounded (a : Asking) : Type 0 where
  pub some : 0 < a.replicas
  pub once : (block : List ℕ) → count_by (is_for block) a.questions ≤ 1
  pub few : (payer : ℕ) → count_by (is_paid_by payer) a.questions
      ≤ (if nat_lt payer a.replicas then MOST_ASKED_FOR else 0)
  pub light : (payer : ℕ) → kept_for payer a.questions ≤ MOST_COPY_BYTES
  pub distinct : All (λ q. AreDistinct a.replicas q.copies) a.questions
  pub turn : a.turn < a.replicas
  pub pace : a.pace.asked ≤ QUESTION_PACE
