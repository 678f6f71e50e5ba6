-- Whom a handshake names, and why it names nobody.
use Rattle.std.specs.Prelude.{ℕ, ◌==◌, nat_lt, List, bytes_eq, if◌then◌else◌}
use Rattle.std.specs.Prelude.{Option, Some, None, Result, Ok, Err}
use Rattle.ids.specs.Sizes.{Sizes}
use Rattle.definitions.specs.Bytes.{Bytes}
use Rattle.definitions.specs.Tags.{hmac}
use Rattle.key_file.specs.declared.pair_key.PairKey.{PairKey}
use Rattle.key_file.specs.KeyFile.{found_key}
use Rattle.handshake.specs.declared.ask.Ask.{Ask}
use Rattle.handshake.specs.declared.refusal.Refusal.{Refusal}
use Rattle.handshake.specs.declared.refusal.Refusal.TheVariants.{NotAGreeting, NotMine, NotAParty, BadTag, OtherSizes}
use Rattle.handshake.specs.Texts.{sizes_digest, is_greeting, nonce_in, ask_text, ask_in, ask_tag_in}
use Rattle.handshake.specs.Texts.{answer_text, answer_bytes, answer_life_in, answer_tag_in}

-- a party at its handshakes: its deployment's sizes, its number, its life, and the keys that it holds
pub record Endpoint : Type 0 where
  pub sizes : Sizes
  pub party : ℕ
  pub life : Bytes
  pub keys : List PairKey

-- who stands at the other end of a link: its number, its life, and its nonce of this handshake
pub record Peer : Type 0 where
  pub party : ℕ
  pub life : Bytes
  pub nonce : Bytes

-- a handshake that a dialler began: what it asks, the acceptor's nonce, and their key
pub record Dialling : Type 0 where
  pub ask : Ask
  pub greeted : Bytes
  pub key : Bytes

-- the key of a dialler and an acceptor, where they have one: the higher number dials the lower
abbrev pub link_key : List PairKey → (dialler acceptor : ℕ) → Option Bytes
link_key keys dialler acceptor = if nat_lt acceptor dialler then found_key keys dialler acceptor else None

-- ---- the dialler

-- the ask of an endpoint to an acceptor
abbrev pub ask_of : Endpoint → (acceptor : ℕ) (nonce : Bytes) → Ask
ask_of e acceptor nonce = record {
  dialler = e.party;
  acceptor = acceptor;
  sizes = sizes_digest e.sizes;
  life = e.life;
  nonce = nonce;
}

-- what comes of a greeting, where this is their key, if they have one
abbrev pub dialled_by : Option Bytes → Endpoint → (acceptor : ℕ) (greeted nonce : Bytes) → Result Dialling Refusal
dialled_by (Some key) e acceptor greeted nonce =
    Ok (record { ask = ask_of e acceptor nonce; greeted = greeted; key = key })
dialled_by None e acceptor greeted nonce = Err NotAParty

-- what comes of a greeting: a handshake, or why there is none
abbrev pub dialled : Endpoint → (acceptor : ℕ) (greeting nonce : Bytes) → Result Dialling Refusal
dialled e acceptor greeting nonce =
    if is_greeting greeting
    then dialled_by (link_key e.keys e.party acceptor) e acceptor (nonce_in greeting) nonce else Err NotAGreeting

-- what comes of an answer: a peer, or why there is none
abbrev pub heard : Dialling → Bytes → Result Peer Refusal
heard d answer =
    if bytes_eq (answer_tag_in answer) (hmac d.key (answer_text d.greeted d.ask (answer_life_in answer)))
    then Ok (record { party = d.ask.acceptor; life = answer_life_in answer; nonce = d.greeted })
    else Err BadTag

-- ---- the acceptor

-- who asks
abbrev pub asker : Ask → Peer
asker a = record { party = a.dialler; life = a.life; nonce = a.nonce }

-- What comes of an ask that says this under this tag, where this is their key, if they have one. The tag is looked at
-- before the sizes: nobody without the key can have them called unequal.
abbrev pub admitted_by : Option Bytes → Endpoint → (greeted : Bytes) → Ask → (tag : Bytes)
    → Result (Peer × Bytes) Refusal
admitted_by (Some key) e greeted a tag =
    if bytes_eq tag (hmac key (ask_text greeted a))
    then (if bytes_eq a.sizes (sizes_digest e.sizes) then Ok (asker a, answer_bytes key greeted a e.life)
    else Err (OtherSizes a.dialler))
    else Err BadTag
admitted_by None e greeted a tag = Err NotAParty

-- what comes of it where the party that is asked may be another one: a peer and the answer to it, or why there is none
abbrev pub admitted_as : Endpoint → (greeted : Bytes) → Ask → (tag : Bytes) → Result (Peer × Bytes) Refusal
admitted_as e greeted a tag =
    if a.acceptor == e.party
    then admitted_by (link_key e.keys a.dialler e.party) e greeted a tag else Err NotMine

-- what comes of the bytes of an ask
abbrev pub admitted : Endpoint → (greeted bytes : Bytes) → Result (Peer × Bytes) Refusal
admitted e greeted bytes = admitted_as e greeted (ask_in bytes) (ask_tag_in bytes)
