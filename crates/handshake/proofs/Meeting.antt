-- Two ends that share a key and their sizes name one another.
use Rattle.std.proofs.Common.{◌≡◌, ◌∙◌, ℕ, ◌<◌, ◌^◌, length, ap, arith, Option, Some, Ok}
use Rattle.std.proofs.lemmas.List.{take_all}
use Rattle.ids.specs.Sizes.{Sizes}
use Rattle.definitions.specs.Bytes.{Bytes}
use Rattle.handshake.specs.declared.ask.Ask.{Ask}
use Rattle.handshake.specs.Texts.{sizes_digest, greeting_bytes, ask_bytes, answer_bytes}
use Rattle.handshake.specs.Judging.{Endpoint, Peer, Dialling, link_key, ask_of, dialled, dialled_by}
use Rattle.handshake.specs.Laws.{IsAskOf, Meet}
use Rattle.handshake.proofs.Named.{only_named, heard_of}

-- a greeting is read back
dialled_of : (d : Endpoint) (acceptor : ℕ) (greeted nonce key : Bytes) → length greeted ≡ 16
    → link_key d.keys d.party acceptor ≡ Some key
    → dialled d acceptor (greeting_bytes greeted) nonce
    ≡ Ok (record { ask = ask_of d acceptor nonce; greeted = greeted; key = key })
dialled_of d acceptor greeted nonce key len held =
    ap (λ (g : Bytes). dialled_by (link_key d.keys d.party acceptor) d acceptor g nonce)
    (take_all 16 greeted (omega (arith, len)))
    ∙ ap (λ (k : Option Bytes). dialled_by k d acceptor greeted nonce) held

pub they_meet : (d a : Endpoint) (greeted nonce key : Bytes)
    → d.party < 2 ^ 16 → a.party < 2 ^ 16 → length d.life ≡ 16 → length a.life ≡ 16
    → length greeted ≡ 16 → length nonce ≡ 16 → d.sizes ≡ a.sizes
    → link_key d.keys d.party a.party ≡ Some key → link_key a.keys d.party a.party ≡ Some key
    → Meet d a greeted nonce key
they_meet d a greeted nonce key dfits afits dlife alife len nlen sizes dheld aheld =
    let dialling : Dialling = record { ask = ask_of d a.party nonce; greeted = greeted; key = key } in
    let peer : Peer = record { party = d.party; life = d.life; nonce = nonce } in
    let said : Sizes → Ask = λ s. record {
      dialler = d.party;
      acceptor = a.party;
      sizes = sizes_digest s;
      life = d.life;
      nonce = nonce;
    } in
    let answer = answer_bytes key greeted (said d.sizes) a.life in
    let is : IsAskOf a greeted (ask_bytes key greeted (said d.sizes)) peer answer = record {
      is = record { party = dfits; life = dlife; nonce = nlen };
      key = key;
      held = aheld;
      asks = ap (λ (s : Sizes). ask_bytes key greeted (said s)) sizes;
      answers = ap (λ (s : Sizes). answer_bytes key greeted (said s) a.life) sizes;
    } in
    record {
      dialling = dialling;
      dials = dialled_of d a.party greeted nonce key len dheld;
      answer = answer;
      admits = only_named a greeted (ask_bytes key greeted (said d.sizes)) peer answer afits is;
      hears = heard_of dialling a.life alife;
    }
