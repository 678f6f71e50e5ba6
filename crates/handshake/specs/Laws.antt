-- What holds of all handshakes.
use Rattle.std.specs.Prelude.{◌≡◌, ℕ, ◌^◌, ◌<◌, ◌↔◌, length, slice_index, Some, Ok}
use Rattle.ids.specs.declared.kind.Kind.{Kind}
use Rattle.definitions.specs.Bytes.{Bytes}
use Rattle.definitions.specs.Tags.{tag_text}
use Rattle.handshake.specs.declared.ask.Ask.{Ask}
use Rattle.handshake.specs.Texts.{sizes_digest, greeting_bytes, ask_text, ask_bytes, answer_text, answer_bytes}
use Rattle.handshake.specs.Judging.{Endpoint, Peer, Dialling, link_key, dialled, heard, admitted}

-- ---- whom a handshake names

-- so many bytes
pub record AreBytes (count : ℕ) (bytes : Bytes) : Type 0 where
  pub each : (i : ℕ) → slice_index bytes i < 256
  pub len : length bytes ≡ count

-- a party's number, a life and a nonce
pub record IsPeer (peer : Peer) : Type 0 where
  pub party : peer.party < 2 ^ 16
  pub life : length peer.life ≡ 16
  pub nonce : length peer.nonce ≡ 16

-- the ask of a peer to an endpoint, at the endpoint's sizes
abbrev pub ask_from : Endpoint → Peer → Ask
ask_from e peer = record {
  dialler = peer.party;
  acceptor = e.party;
  sizes = sizes_digest e.sizes;
  life = peer.life;
  nonce = peer.nonce;
}

-- The bytes are the ask of a peer that may dial the endpoint which greeted with this nonce, under their key; and this
-- is the answer to it.
pub record IsAskOf (e : Endpoint) (greeted bytes : Bytes) (peer : Peer) (answer : Bytes) : Type 0 where
  pub is : IsPeer peer
  pub key : Bytes
  pub held : link_key e.keys peer.party e.party ≡ Some key
  pub asks : bytes ≡ ask_bytes key greeted (ask_from e peer)
  pub answers : answer ≡ answer_bytes key greeted (ask_from e peer) e.life

-- An acceptor names a peer exactly where the bytes are its ask: with this nonce, at these sizes, and with the tag that
-- their key makes.
abbrev pub AdmitsExactly : Type 0
AdmitsExactly = (e : Endpoint) (greeted bytes : Bytes) (peer : Peer) (answer : Bytes)
    → e.party < 2 ^ 16 → AreBytes 100 bytes
    → (admitted e greeted bytes ≡ Ok (peer, answer)) ↔ IsAskOf e greeted bytes peer answer

-- The bytes are the acceptor's answer in this peer's life, under their key.
pub record IsAnswerOf (d : Dialling) (bytes : Bytes) (peer : Peer) : Type 0 where
  pub party : peer.party ≡ d.ask.acceptor
  pub nonce : peer.nonce ≡ d.greeted
  pub life : length peer.life ≡ 16
  pub answers : bytes ≡ answer_bytes d.key d.greeted d.ask peer.life

-- A dialler names a peer exactly where the bytes are the answer to what it asked.
abbrev pub HearsExactly : Type 0
HearsExactly = (d : Dialling) (bytes : Bytes) (peer : Peer) → AreBytes 48 bytes
    → (heard d bytes ≡ Ok peer) ↔ IsAnswerOf d bytes peer

-- Two endpoints with the same sizes and one key for their pair, the dialler with the higher number: what they say leads
-- each to name the other one.
pub record Meet (d a : Endpoint) (greeted nonce key : Bytes) : Type 0 where
  pub dialling : Dialling
  pub dials : dialled d a.party (greeting_bytes greeted) nonce ≡ Ok dialling
  pub answer : Bytes
  pub admits : admitted a greeted (ask_bytes dialling.key dialling.greeted dialling.ask)
      ≡ Ok (record { party = d.party; life = d.life; nonce = nonce }, answer)
  pub hears : heard dialling answer ≡ Ok (record { party = a.party; life = a.life; nonce = greeted })

abbrev pub TheyMeet : Type 0
TheyMeet = (d a : Endpoint) (greeted nonce key : Bytes)
    → d.party < 2 ^ 16 → a.party < 2 ^ 16 → length d.life ≡ 16 → length a.life ≡ 16
    → length greeted ≡ 16 → length nonce ≡ 16 → d.sizes ≡ a.sizes
    → link_key d.keys d.party a.party ≡ Some key → link_key a.keys d.party a.party ≡ Some key
    → Meet d a greeted nonce key

-- ---- what tags speak of

-- the lengths of the parts of an ask
pub record IsAsk (a : Ask) : Type 0 where
  pub dialler : a.dialler < 2 ^ 16
  pub acceptor : a.acceptor < 2 ^ 16
  pub sizes : length a.sizes ≡ 32
  pub life : length a.life ≡ 16
  pub nonce : length a.nonce ≡ 16

-- What the tag of an ask, or of an answer, is made of determines both nonces and all that is said.
abbrev pub TextsAreOfOne : Type 0
TextsAreOfOne = (greeted other : Bytes) (a b : Ask) → length greeted ≡ 16 → length other ≡ 16 → IsAsk a → IsAsk b
    → (ask_text greeted a ≡ ask_text other b → (greeted ≡ other) × (a ≡ b))
    × ((life later : Bytes) → answer_text greeted a life ≡ answer_text other b later
    → (greeted ≡ other) × (a ≡ b) × (life ≡ later))

-- No tag of a frame is made of what a tag of a handshake is made of.
abbrev pub NoTextIsOfAFrame : Type 0
NoTextIsOfAFrame = (greeted : Bytes) (a : Ask) (life : Bytes) (label : Kind) (sender receiver : ℕ) (content : Bytes)
    → (ask_text greeted a ≡ tag_text label sender receiver content → ⊥)
    × (answer_text greeted a life ≡ tag_text label sender receiver content → ⊥)

-- No ask's tag is made of what an answer's is made of: nothing can be sent back to who said it.
abbrev pub NoAskIsAnAnswer : Type 0
NoAskIsAnAnswer = (greeted other : Bytes) (a b : Ask) (life : Bytes)
    → ask_text greeted a ≡ answer_text other b life → ⊥
