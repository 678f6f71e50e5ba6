-- What the two ends of a link say to one another before the first frame, byte by byte.
use Rattle.std.specs.Prelude.{Bool, bytes_eq, ◌++◌, [], ◌∷◌, take, drop, codes}
use Rattle.std.specs.Int.{w16, w32, to_be_bytes, from_be_bytes}
use Rattle.sha2.specs.Sha256.{sha256}
use Rattle.ids.specs.Sizes.{Sizes}
use Rattle.definitions.specs.Bytes.{Bytes}
use Rattle.definitions.specs.Tags.{hmac}
use Rattle.handshake.specs.declared.ask.Ask.{Ask}
use Rattle.handshake.specs.declared.label.Label.TheVariants as label
use Rattle.handshake.specs.Labels.{label_number}

-- the acceptor's first words, before its nonce
abbrev pub greeting_words : Bytes
greeting_words = codes "mcbft link 1" ++ 10 ∷ []

-- the acceptor's greeting: the words, and its nonce
abbrev pub greeting_bytes : Bytes → Bytes
greeting_bytes nonce = greeting_words ++ nonce

-- such bytes begin with the words, and the nonce stands behind them
abbrev pub is_greeting : Bytes → Bool
is_greeting bytes = bytes_eq (take 13 bytes) greeting_words

abbrev pub nonce_in : Bytes → Bytes
nonce_in bytes = take 16 (drop 13 bytes)

-- the digest of a deployment's sizes: SHA-256 of faulty replicas, clients and keys
abbrev pub sizes_digest : Sizes → Bytes
sizes_digest sizes = sha256 ((sizes.faults ∷ sizes.clients ∷ []) ++ to_be_bytes w32 sizes.most_keys)

-- ---- the ask

-- what it says before its tag: dialler, acceptor, digest of the dialler's sizes, its life and its nonce
abbrev pub ask_head : Ask → Bytes
ask_head a = to_be_bytes w16 a.dialler ++ to_be_bytes w16 a.acceptor ++ a.sizes ++ a.life ++ a.nonce

-- what both tags speak of behind the parties: the acceptor's nonce, the dialler's, the digest, the dialler's life
abbrev pub shared_text : (greeted : Bytes) → Ask → Bytes
shared_text greeted a = greeted ++ a.nonce ++ a.sizes ++ a.life

-- what the tag of an ask is made of
abbrev pub ask_text : (greeted : Bytes) → Ask → Bytes
ask_text greeted a =
    label_number label.Ask ∷ to_be_bytes w16 a.dialler ++ to_be_bytes w16 a.acceptor ++ shared_text greeted a

-- an ask, as it goes over a link
abbrev pub ask_bytes : (key greeted : Bytes) → Ask → Bytes
ask_bytes key greeted a = ask_head a ++ hmac key (ask_text greeted a)

-- what stands where in such bytes
abbrev pub ask_in : Bytes → Ask
ask_in bytes = record {
  dialler = from_be_bytes w16 (take 2 bytes);
  acceptor = from_be_bytes w16 (take 2 (drop 2 bytes));
  sizes = take 32 (drop 4 bytes);
  life = take 16 (drop 36 bytes);
  nonce = take 16 (drop 52 bytes);
}

abbrev pub ask_tag_in : Bytes → Bytes
ask_tag_in bytes = take 32 (drop 68 bytes)

-- ---- the answer

-- what the tag of an answer is made of: the parties change places, and the acceptor's life stands last
abbrev pub answer_text : (greeted : Bytes) → Ask → (life : Bytes) → Bytes
answer_text greeted a life =
    label_number label.Answer ∷ to_be_bytes w16 a.acceptor ++ to_be_bytes w16 a.dialler ++ shared_text greeted a ++ life

-- an answer, as it goes over a link: the acceptor's life and the tag
abbrev pub answer_bytes : (key greeted : Bytes) → Ask → (life : Bytes) → Bytes
answer_bytes key greeted a life = life ++ hmac key (answer_text greeted a life)

-- what stands where in such bytes
abbrev pub answer_life_in : Bytes → Bytes
answer_life_in bytes = take 16 bytes

abbrev pub answer_tag_in : Bytes → Bytes
answer_tag_in bytes = take 32 (drop 16 bytes)
