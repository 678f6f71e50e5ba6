-- What a tag is made of determines what is said.
use Rattle.std.proofs.Common.{◌≡◌, ◌∙◌, ℕ, ◌<◌, ◌^◌, ◌++◌, [], length, take, drop, sym, ap, append_assoc}
use Rattle.std.proofs.lemmas.List.{append-nil}
use Rattle.std.proofs.lemmas.Nat.{from_be_bytes-to_be_bytes_2}
use Rattle.std.specs.Int.{w16, to_be_bytes}
use Rattle.definitions.specs.Bytes.{Bytes}
use Rattle.definitions.proofs.Spellings.{append_parts, to_be_bytes_injective}
use Rattle.handshake.specs.declared.ask.Ask.{Ask}
use Rattle.handshake.specs.Texts.{ask_text, answer_text, shared_text}
use Rattle.handshake.specs.Laws.{IsAsk}
use Rattle.handshake.proofs.Cutting.{same_ask}

-- what is equal in two texts
pub record SaysOne (greeted other : Bytes) (a b : Ask) (life later : Bytes) : Type 0 where
  pub nonces : greeted ≡ other
  pub asks : a ≡ b
  pub lives : life ≡ later

-- both texts behind the parties, with what may follow
shared_parts : (greeted other : Bytes) (a b : Ask) (life later : Bytes) → length greeted ≡ 16 → length other ≡ 16
    → IsAsk a → IsAsk b → a.dialler ≡ b.dialler → a.acceptor ≡ b.acceptor
    → shared_text greeted a ++ life ≡ shared_text other b ++ later → SaysOne greeted other a b life later
shared_parts greeted other a b life later hg ho ha hb dialler acceptor e =
    let row : (g n s l t : Bytes) → (((g ++ n) ++ s) ++ l) ++ t ≡ g ++ (n ++ (s ++ (l ++ t))) =
    λ g n s l t. simp append_assoc in
    let from_nonce = append_parts greeted other (a.nonce ++ (a.sizes ++ (a.life ++ life)))
    (b.nonce ++ (b.sizes ++ (b.life ++ later))) (hg ∙ sym ho)
    (sym (row greeted a.nonce a.sizes a.life life) ∙ (e ∙ row other b.nonce b.sizes b.life later)) in
    let from_sizes = append_parts a.nonce b.nonce (a.sizes ++ (a.life ++ life)) (b.sizes ++ (b.life ++ later))
    (ha.nonce ∙ sym hb.nonce) from_nonce.1 in
    let from_life = append_parts a.sizes b.sizes (a.life ++ life) (b.life ++ later) (ha.sizes ∙ sym hb.sizes)
    from_sizes.1 in
    let lives = append_parts a.life b.life life later (ha.life ∙ sym hb.life) from_life.1 in
    record {
      nonces = from_nonce.0;
      asks = same_ask a b dialler acceptor from_life.0 lives.0 from_sizes.0;
      lives = lives.1;
    }

-- a party's two bytes determine it
same_party : (p q : ℕ) → p < 2 ^ 16 → q < 2 ^ 16 → to_be_bytes w16 p ≡ to_be_bytes w16 q → p ≡ q
same_party p q hp hq =
    to_be_bytes_injective w16 p q (from_be_bytes-to_be_bytes_2 p hp) (from_be_bytes-to_be_bytes_2 q hq)

pub ask_says_one : (greeted other : Bytes) (a b : Ask) → length greeted ≡ 16 → length other ≡ 16 → IsAsk a → IsAsk b
    → ask_text greeted a ≡ ask_text other b → SaysOne greeted other a b [] []
ask_says_one greeted other a b hg ho ha hb e =
    shared_parts greeted other a b [] [] hg ho ha hb
    (same_party a.dialler b.dialler ha.dialler hb.dialler (ap (λ (t : Bytes). take 2 (drop 1 t)) e))
    (same_party a.acceptor b.acceptor ha.acceptor hb.acceptor (ap (λ (t : Bytes). take 2 (drop 3 t)) e))
    (append-nil (shared_text greeted a) ∙ (ap (drop 5) e ∙ sym (append-nil (shared_text other b))))

pub answer_says_one : (greeted other : Bytes) (a b : Ask) → length greeted ≡ 16 → length other ≡ 16 → IsAsk a
    → IsAsk b → (life later : Bytes) → answer_text greeted a life ≡ answer_text other b later
    → SaysOne greeted other a b life later
answer_says_one greeted other a b hg ho ha hb life later e =
    shared_parts greeted other a b life later hg ho ha hb
    (same_party a.dialler b.dialler ha.dialler hb.dialler (ap (λ (t : Bytes). take 2 (drop 3 t)) e))
    (same_party a.acceptor b.acceptor ha.acceptor hb.acceptor (ap (λ (t : Bytes). take 2 (drop 1 t)) e))
    (ap (drop 5) e)
