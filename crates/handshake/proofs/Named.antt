-- Whom a handshake names.
use Rattle.std.proofs.Common.{◌≡◌, ◌∙◌, ℕ, ◌<◌, ◌^◌, ◌++◌, Bool, true, false, length, refl, sym, ap, subst, arith}
use Rattle.std.proofs.Common.{Option, Some, None, Ok, Err, length-take, length-drop, drop}
use Rattle.std.proofs.lemmas.Bool.{eqb-true, eq-eqb}
use Rattle.std.proofs.lemmas.Slice.Eq.{bytes_eq-Decides}
use Rattle.std.specs.Prelude.{◌==◌, bytes_eq, if◌then◌else◌, Result}
use Rattle.sha2.proofs.Facts256.{length-sha256}
use Rattle.definitions.specs.Bytes.{Bytes}
use Rattle.definitions.specs.Tags.{hmac}
use Rattle.definitions.proofs.Vectors.{length-hmac}
use Rattle.handshake.specs.declared.ask.Ask.{Ask}
use Rattle.handshake.specs.declared.refusal.Refusal.{Refusal}
use Rattle.handshake.specs.declared.refusal.Refusal.TheVariants.{NotMine, BadTag, OtherSizes}
use Rattle.handshake.specs.Texts.{sizes_digest, ask_head, ask_text, ask_bytes, ask_in, ask_tag_in, answer_text}
use Rattle.handshake.specs.Texts.{answer_bytes, answer_life_in, answer_tag_in}
use Rattle.handshake.specs.Judging.{Endpoint, Peer, Dialling, link_key, asker, admitted, admitted_as, admitted_by}
use Rattle.handshake.specs.Judging.{heard}
use Rattle.handshake.specs.Laws.{AreBytes, IsAsk, IsAskOf, IsAnswerOf, ask_from}
use Rattle.handshake.proofs.Cutting.{ask_whole, ask_read, answer_whole, answer_read, same_ask, two_bytes}

-- ---- an ask

-- what holds of an ask that names a peer
record Named (e : Endpoint) (greeted : Bytes) (a : Ask) (tag : Bytes) (peer : Peer) (answer : Bytes) :
    Type 0 where
  pub key : Bytes
  pub held : link_key e.keys a.dialler e.party ≡ Some key
  pub mine : a.acceptor ≡ e.party
  pub right : tag ≡ hmac key (ask_text greeted a)
  pub sizes : a.sizes ≡ sizes_digest e.sizes
  pub party : a.dialler ≡ peer.party
  pub life : a.life ≡ peer.life
  pub nonce : a.nonce ≡ peer.nonce
  pub answers : answer ≡ answer_bytes key greeted a e.life

named_by : (e : Endpoint) (greeted : Bytes) (a : Ask) (tag key : Bytes) (peer : Peer) (answer : Bytes) (b c : Bool)
    → (b ≡ true → tag ≡ hmac key (ask_text greeted a)) → (c ≡ true → a.sizes ≡ sizes_digest e.sizes)
    → link_key e.keys a.dialler e.party ≡ Some key → a.acceptor ≡ e.party
    → (let r : Result (Peer × Bytes) Refusal = (if b then (if c then Ok (asker a, answer_bytes key greeted a e.life)
    else Err (OtherSizes a.dialler)) else Err BadTag) in r) ≡ Ok (peer, answer)
    → Named e greeted a tag peer answer
named_by e greeted a tag key peer answer true true right sizes held mine h =
    let told : Peer × Bytes = (asker a, answer_bytes key greeted a e.life) in
    let wanted : Peer × Bytes = (peer, answer) in
    let same : told ≡ wanted = cc in
    let peer_is : asker a ≡ peer = ap (λ (p : Peer × Bytes). p.0) same in
    record {
      key = key;
      held = held;
      mine = mine;
      right = right refl;
      sizes = sizes refl;
      party = ap (λ (p : Peer). p.party) peer_is;
      life = ap (λ (p : Peer). p.life) peer_is;
      nonce = ap (λ (p : Peer). p.nonce) peer_is;
      answers = sym (ap (λ (p : Peer × Bytes). p.1) same);
    }
named_by e greeted a tag key peer answer true false right sizes held mine h = absurd cc
named_by e greeted a tag key peer answer false c right sizes held mine h = absurd cc

named_with : (e : Endpoint) (greeted : Bytes) (a : Ask) (tag : Bytes) (peer : Peer) (answer : Bytes)
    (k : Option Bytes) → link_key e.keys a.dialler e.party ≡ k → a.acceptor ≡ e.party
    → admitted_by k e greeted a tag ≡ Ok (peer, answer) → Named e greeted a tag peer answer
named_with e greeted a tag peer answer (Some key) held mine h =
    named_by e greeted a tag key peer answer (bytes_eq tag (hmac key (ask_text greeted a)))
    (bytes_eq a.sizes (sizes_digest e.sizes)) ((bytes_eq-Decides tag (hmac key (ask_text greeted a))).0)
    ((bytes_eq-Decides a.sizes (sizes_digest e.sizes)).0) held mine h
named_with e greeted a tag peer answer None held mine h = absurd cc

named_as : (e : Endpoint) (greeted : Bytes) (a : Ask) (tag : Bytes) (peer : Peer) (answer : Bytes) (b : Bool)
    → (b ≡ true → a.acceptor ≡ e.party)
    → (let r : Result (Peer × Bytes) Refusal = (if b
    then admitted_by (link_key e.keys a.dialler e.party) e greeted a tag else Err NotMine) in r) ≡ Ok (peer, answer)
    → Named e greeted a tag peer answer
named_as e greeted a tag peer answer true mine h =
    named_with e greeted a tag peer answer (link_key e.keys a.dialler e.party) refl (mine refl) h
named_as e greeted a tag peer answer false mine h = absurd cc

pub named : (e : Endpoint) (greeted bytes : Bytes) (peer : Peer) (answer : Bytes) → AreBytes 100 bytes
    → admitted e greeted bytes ≡ Ok (peer, answer) → IsAskOf e greeted bytes peer answer
named e greeted bytes peer answer are h =
    let a = ask_in bytes in
    let n = named_as e greeted a (ask_tag_in bytes) peer answer (a.acceptor == e.party)
    (eqb-true a.acceptor e.party) h in
    let same : a ≡ ask_from e peer = same_ask a (ask_from e peer) n.party n.mine n.sizes n.life n.nonce in
    record {
      is = record {
        party = subst (λ (p : ℕ). p < 2 ^ 16) n.party (two_bytes bytes are.each);
        life = ap (λ (l : Bytes). length l) (sym n.life)
            ∙ (length-take 16 (drop 36 bytes) ∙ omega (arith, length-drop 36 bytes, are.len));
        nonce = ap (λ (l : Bytes). length l) (sym n.nonce)
            ∙ (length-take 16 (drop 52 bytes) ∙ omega (arith, length-drop 52 bytes, are.len));
      };
      key = n.key;
      held = ap (λ (p : ℕ). link_key e.keys p e.party) (sym n.party) ∙ n.held;
      asks = sym (ask_whole bytes are)
          ∙ (ap (λ (t : Bytes). ask_head a ++ t) n.right ∙ ap (λ (x : Ask). ask_bytes n.key greeted x) same);
      answers = n.answers ∙ ap (λ (x : Ask). answer_bytes n.key greeted x e.life) same;
    }

-- where all tests pass
passes : (e : Endpoint) (greeted : Bytes) (a : Ask) (tag key : Bytes) → link_key e.keys a.dialler e.party ≡ Some key
    → a.acceptor ≡ e.party → tag ≡ hmac key (ask_text greeted a) → a.sizes ≡ sizes_digest e.sizes
    → admitted_as e greeted a tag ≡ Ok (asker a, answer_bytes key greeted a e.life)
passes e greeted a tag key held mine right sizes =
    let Answer = Result (Peer × Bytes) Refusal in
    let done : Answer = Ok (asker a, answer_bytes key greeted a e.life) in
    ap (λ (b : Bool). let r : Answer = (if b then admitted_by (link_key e.keys a.dialler e.party) e greeted a tag
    else Err NotMine) in r) (eq-eqb a.acceptor e.party mine)
    ∙ (ap (λ (k : Option Bytes). admitted_by k e greeted a tag) held
    ∙ (ap (λ (b : Bool). let r : Answer = (if b
    then (if bytes_eq a.sizes (sizes_digest e.sizes) then done else Err (OtherSizes a.dialler)) else Err BadTag) in r)
    ((bytes_eq-Decides tag (hmac key (ask_text greeted a))).1 right)
    ∙ ap (λ (b : Bool). let r : Answer = (if b then done else Err (OtherSizes a.dialler)) in r)
    ((bytes_eq-Decides a.sizes (sizes_digest e.sizes)).1 sizes)))

pub only_named : (e : Endpoint) (greeted bytes : Bytes) (peer : Peer) (answer : Bytes) → e.party < 2 ^ 16
    → IsAskOf e greeted bytes peer answer → admitted e greeted bytes ≡ Ok (peer, answer)
only_named e greeted bytes peer answer fits is =
    let a = ask_from e peer in
    let tag = hmac is.key (ask_text greeted a) in
    let whole : IsAsk a = record {
      dialler = is.is.party;
      acceptor = fits;
      sizes = length-sha256 _;
      life = is.is.life;
      nonce = is.is.nonce;
    } in
    let read = ask_read a tag whole (length-hmac is.key (ask_text greeted a)) in
    ap (admitted e greeted) is.asks
    ∙ (ap (λ (x : Ask). admitted_as e greeted x (ask_tag_in (ask_head a ++ tag))) read.ask_is
    ∙ (ap (λ (t : Bytes). admitted_as e greeted a t) read.tag_is
    ∙ (passes e greeted a tag is.key is.held refl refl refl
    ∙ ap (λ (l : Bytes). let r : Result (Peer × Bytes) Refusal = Ok (peer, l) in r) (sym is.answers))))

-- ---- an answer

-- what holds of an answer that names a peer
heard_by : (d : Dialling) (bytes : Bytes) (peer : Peer) (b : Bool) → AreBytes 48 bytes
    → (b ≡ true → answer_tag_in bytes ≡ hmac d.key (answer_text d.greeted d.ask (answer_life_in bytes)))
    → (let r : Result Peer Refusal = (if b
    then Ok (record { party = d.ask.acceptor; life = answer_life_in bytes; nonce = d.greeted })
    else Err BadTag) in r) ≡ Ok peer
    → IsAnswerOf d bytes peer
heard_by d bytes peer true are right h =
    let told : Peer = record { party = d.ask.acceptor; life = answer_life_in bytes; nonce = d.greeted } in
    let same : told ≡ peer = cc in
    record {
      party = sym (ap (λ (p : Peer). p.party) same);
      nonce = sym (ap (λ (p : Peer). p.nonce) same);
      life = ap (λ (p : Peer). length p.life) (sym same)
          ∙ (length-take 16 bytes ∙ omega (arith, are.len));
      answers = sym (answer_whole bytes are)
          ∙ (ap (λ (t : Bytes). answer_life_in bytes ++ t) (right refl)
          ∙ ap (λ (p : Peer). answer_bytes d.key d.greeted d.ask p.life) same);
    }
heard_by d bytes peer false are right h = absurd cc

pub heard_named : (d : Dialling) (bytes : Bytes) (peer : Peer) → AreBytes 48 bytes → heard d bytes ≡ Ok peer
    → IsAnswerOf d bytes peer
heard_named d bytes peer are h =
    let right = hmac d.key (answer_text d.greeted d.ask (answer_life_in bytes)) in
    heard_by d bytes peer (bytes_eq (answer_tag_in bytes) right) are
    ((bytes_eq-Decides (answer_tag_in bytes) right).0) h

-- of the answer, where its parts are read
hears : (d : Dialling) (life tag : Bytes) → tag ≡ hmac d.key (answer_text d.greeted d.ask life)
    → (bytes : Bytes) → answer_life_in bytes ≡ life → answer_tag_in bytes ≡ tag
    → heard d bytes ≡ Ok (record { party = d.ask.acceptor; life = life; nonce = d.greeted })
hears d life tag right bytes is_life is_tag =
    let told : Bytes → Peer = λ l. record { party = d.ask.acceptor; life = l; nonce = d.greeted } in
    let same : answer_tag_in bytes ≡ hmac d.key (answer_text d.greeted d.ask (answer_life_in bytes)) =
    is_tag ∙ (right ∙ ap (λ (l : Bytes). hmac d.key (answer_text d.greeted d.ask l)) (sym is_life)) in
    ap (λ (b : Bool). let r : Result Peer Refusal = (if b then Ok (told (answer_life_in bytes)) else Err BadTag) in r)
    ((bytes_eq-Decides (answer_tag_in bytes) (hmac d.key (answer_text d.greeted d.ask (answer_life_in bytes)))).1 same)
    ∙ ap (λ (l : Bytes). let r : Result Peer Refusal = Ok (told l) in r) is_life

pub heard_of : (d : Dialling) (life : Bytes) → length life ≡ 16
    → heard d (answer_bytes d.key d.greeted d.ask life)
    ≡ Ok (record { party = d.ask.acceptor; life = life; nonce = d.greeted })
heard_of d life len =
    let tag = hmac d.key (answer_text d.greeted d.ask life) in
    let read = answer_read life tag len (length-hmac d.key (answer_text d.greeted d.ask life)) in
    hears d life tag refl (life ++ tag) read.0 read.1

pub only_heard : (d : Dialling) (bytes : Bytes) (peer : Peer) → IsAnswerOf d bytes peer → heard d bytes ≡ Ok peer
only_heard d bytes peer is =
    let told : ℕ → Bytes → Result Peer Refusal =
    λ p n. Ok (record { party = p; life = peer.life; nonce = n }) in
    ap (heard d) is.answers
    ∙ (heard_of d peer.life is.life
    ∙ (ap (λ (p : ℕ). told p d.greeted) (sym is.party) ∙ ap (λ (n : Bytes). told peer.party n) (sym is.nonce)))
