-- What a linear run is: one history, of which all that correct parties did and accepted is told.
use Rattle.std.specs.Prelude.{ℕ, ◌≡◌, ◌<◌, true, false, List, ◌∷◌}
use Rattle.ids.specs.Sizes.{client_party}
use Rattle.definitions.specs.Lists.{IsBeginning, Among}
use Rattle.definitions.specs.Frames.{Command}
use Rattle.definitions.specs.Frames as frame
use Rattle.definitions.specs.Histories.{Entry, History, Answer, is_fresh, answers}
use Rattle.definitions.specs.Replicas.{held_history}
use Rattle.definitions.specs.Worlds.{Sent, AcceptedBy, World, is_correct}

-- the replies along a history in a world: those of a cache with the room that its replicas' have
abbrev pub answers_in : World → History → List Answer
answers_in w h = answers w.sizes.most_keys h

-- a client's command of this number has its place in h
abbrev pub HasPlace : World → History → ℕ → ℕ → ℕ → Type 0
HasPlace w h client seq place =
    (a : Answer) × Among a (answers_in w h) × (a.client ≡ client) × (a.seq ≡ seq) × (a.place ≡ place)

-- its client submitted the entry in the event of this number
pub record WasSubmitted (w : World) (e : Entry) (event : ℕ) : Type 0 where
  pub sent : Sent
  pub command : Command
  pub recorded : Among sent w.sent
  pub by_client : sent.sender ≡ client_party e.client
  pub at_event : sent.event ≡ event
  pub is_request : sent.frame ≡ frame.request command
  pub client : command.client ≡ e.client
  pub seq : command.seq ≡ e.seq
  pub payload : command.payload ≡ e.payload

-- h is the one history
pub record IsLinearBy (w : World) (h : History) : Type 0 where
  -- each correct replica's history is a beginning of it
  pub histories : (i : ℕ) → is_correct w i ≡ true → IsBeginning (held_history (w.replica i)) h
  -- each receipt is the sequential reply to its command, at the command's place in it
  pub receipts : (r : AcceptedBy) → Among r w.receipts →
      Among
      (record { client = r.client; seq = r.receipt.seq; place = r.receipt.place; text = r.receipt.text })
      (answers_in w h)
  -- each fresh entry in a correct client's name was submitted by it
  pub submitted : (e : Entry) (earlier : History) → IsBeginning (e ∷ earlier) h → is_fresh e earlier ≡ true
      → e.client < w.sizes.clients
      → w.is_faulty (client_party e.client) ≡ false → (event : ℕ) × WasSubmitted w e event
  -- what was submitted after an acceptance stands later
  pub in_order : (r : AcceptedBy) (e : Entry) (event place : ℕ) → Among r w.receipts
      → w.is_faulty (client_party e.client) ≡ false
      → WasSubmitted w e event → r.event < event → HasPlace w h e.client e.seq place → r.receipt.place < place

-- there is one history of the run
abbrev pub IsLinear : World → Type 0
IsLinear w = (h : History) × IsLinearBy w h
