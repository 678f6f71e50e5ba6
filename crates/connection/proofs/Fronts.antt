-- Items that were served, and then more.
use Rattle.std.proofs.Common.{◌≡◌, ℕ, ◌<◌, Bool, true, false, List, [], ◌∷◌, ◌++◌, length, drop, Option}
use Rattle.std.proofs.Common.{Some, None, refl, sym, ap, subst, ◌∙◌, arith, append-nil, length-drop}
use Rattle.std.proofs.KnownBytes.{Appends-trans}
use Rattle.std.proofs.lemmas.List.{drop-append-le}
use Rattle.std.proofs.lemmas.Grind.{flat_map-append}
use Rattle.std.specs.Prelude.{if◌then◌else◌, MatchBool}
use Rattle.std.specs.Io.KnownBytes.{Appends}
use Rattle.ids.specs.declared.line_fault.LineFault.TheVariants.{UnknownName, BadFields, TooLarge, BadChunk}
use Rattle.ids.specs.declared.line_fault.LineFault.TheVariants.{LineTooLong}
use Rattle.definitions.specs.Bytes.{Bytes}
use Rattle.definitions.specs.Items.{Item, goes_on, IsItemAt, IsUnfinished}
use Rattle.definitions.specs.ServerText.{Exchange, answered, finished, told, item_in, exchange_text}
use Rattle.definitions.specs.ServerText.{is_followed, AreExchanges}
use Rattle.definitions.proofs.ItemLaws.{IsItemAt-append, takes_some}
use Rattle.line_feed.specs.Feeding.{Gives}
use Rattle.connection.specs.declared.end.End.{End}
use Rattle.connection.specs.declared.end.End.TheVariants.{Quit, Input, Closed, NoReply}
use Rattle.connection.specs.Serving.{Call, Calls, end_of, ended_by, ending, State, Serving, Replies}
use Rattle.connection.specs.Serving.{ServesFront, ServesText}
use Rattle.connection.specs.Steps.{ServesLast, ServesHeld}

-- ---- which exchanges end the connection

-- what is followed ends nothing
followed_open : (x : Exchange) → is_followed x ≡ true → (goes_on (item_in x) ≡ true) × (end_of x ≡ None)
followed_open (answered r n (Some t)) e = (refl, refl)
followed_open (answered r n None) e = absurd cc
followed_open finished e = absurd cc
followed_open (told UnknownName) e = (refl, refl)
followed_open (told BadFields) e = absurd cc
followed_open (told TooLarge) e = absurd cc
followed_open (told BadChunk) e = absurd cc
followed_open (told LineTooLong) e = absurd cc

-- what ends nothing is followed
open_followed : (x : Exchange) → None ≡ end_of x → is_followed x ≡ true
open_followed (answered r n (Some t)) e = refl
open_followed (answered r n None) e = absurd cc
open_followed finished e = absurd cc
open_followed (told UnknownName) e = refl
open_followed (told BadFields) e = absurd cc
open_followed (told TooLarge) e = absurd cc
open_followed (told BadChunk) e = absurd cc
open_followed (told LineTooLong) e = absurd cc

-- what ends it isn't followed
ends_last : (x : Exchange) (end : End) → Some end ≡ end_of x → is_followed x ≡ false
ends_last (answered r n (Some t)) end e = absurd cc
ends_last (answered r n None) end e = refl
ends_last finished end e = refl
ends_last (told UnknownName) end e = absurd cc
ends_last (told BadFields) end e = refl
ends_last (told TooLarge) end e = refl
ends_last (told BadChunk) end e = refl
ends_last (told LineTooLong) end e = refl

-- and isn't the end of the input
pub never_input : (x : Exchange) → Some Input ≡ end_of x → ⊥
never_input (answered r n (Some t)) e = cc
never_input (answered r n None) e = cc
never_input finished e = cc
never_input (told UnknownName) e = cc
never_input (told BadFields) e = cc
never_input (told TooLarge) e = cc
never_input (told BadChunk) e = cc
never_input (told LineTooLong) e = cc

pub ends_so : (x : Exchange) (end : End) → Some end ≡ end_of x → ending end ≡ Some end
ends_so x Quit e = refl
ends_so x Closed e = refl
ends_so x NoReply e = refl
ends_so x Input e = absurd (never_input x e)

-- the last one decides
ended_by_last : (xs : List Exchange) (x : Exchange) → ended_by (xs ++ x ∷ []) ≡ end_of x
ended_by_last [] x = refl
ended_by_last (y ∷ []) x = refl
ended_by_last (y ∷ z ∷ xs) x = ended_by_last (z ∷ xs) x

module _ {S : Type 0} (answers : S → Bytes → Option Bytes → S → Type 0) where
  -- ---- one item after the other

  -- more came behind the text
  serving_more : (xs : List Exchange) (a b : S) (text left more : Bytes) → Serving answers a text xs b left
      → Serving answers a (text ++ more) xs b (left ++ more)
  serving_more [] a b text left more h = (h.0, ap (λ (t : Bytes). t ++ more) h.1)
  serving_more (x ∷ xs) a b text left more h = (
    h.0,
    IsItemAt-append text more (item_in x) h.0 h.1,
    h.2,
    h.3,
    h.4,
    subst (λ (t : Bytes). Serving answers h.3 t xs b (left ++ more))
        (sym (drop-append-le h.0 text more (takes_some text (item_in x) h.0 h.1 (followed_open x h.2).0).1))
        (serving_more xs h.3 b (drop h.0 text) left more h.5),
  )

  -- more was served
  serving_then : (xs ys : List Exchange) (a m b : S) (text rest left : Bytes)
      → Serving answers a text xs m rest → Serving answers m rest ys b left
      → Serving answers a text (xs ++ ys) b left
  serving_then [] ys a m b text rest left g h =
      subst (λ (t : Bytes). Serving answers a t ys b left) g.1
      (subst (λ (s : S). Serving answers s rest ys b left) g.0 h)
  serving_then (x ∷ xs) ys a m b text rest left g h =
      (g.0, g.1, g.2, g.3, g.4, serving_then xs ys g.3 m b (drop g.0 text) rest left g.5 h)

  -- the calls alone
  serving_calls : (xs : List Exchange) (a b : S) (text left : Bytes) → Serving answers a text xs b left
      → Calls answers a xs b
  serving_calls [] a b text left h = h.0
  serving_calls (x ∷ xs) a b text left h = (h.3, h.4, serving_calls xs h.3 b (drop h.0 text) left h.5)

  -- and one more
  calls_then : (xs : List Exchange) (x : Exchange) (a m b : S) → Calls answers a xs m → Call answers m x b
      → Calls answers a (xs ++ x ∷ []) b
  calls_then [] x a m b g h = (b, subst (λ (s : S). Call answers s x b) g h, refl)
  calls_then (y ∷ xs) x a m b g h = (g.0, g.1, calls_then xs x g.0 m b g.2 h)

  -- what is left is unfinished: these are all
  are_all : (xs : List Exchange) (a b : S) (text left : Bytes) → Serving answers a text xs b left
      → IsUnfinished left → AreExchanges text xs × (ended_by xs ≡ None)
  are_all [] a b text left h open_yet = (subst IsUnfinished h.1 open_yet, refl)
  are_all (x ∷ xs) a b text left h open_yet =
      let rest = are_all xs h.3 b (drop h.0 text) left h.5 open_yet in (
        (
          h.0,
          h.1,
          subst (λ (f : Bool). MatchBool f (AreExchanges (drop h.0 text) xs) (xs ≡ [])) (sym h.2) rest.0,
        ),
        last xs rest.1,
      )
    where
      last : (ys : List Exchange) → ended_by ys ≡ None → ended_by (x ∷ ys) ≡ None
      last [] e = (followed_open x h.2).1
      last (y ∷ ys) e = e

  -- the next one ends the connection: with it these are all
  are_all_with : (xs : List Exchange) (x : Exchange) (used : ℕ) (a b : S) (text left : Bytes)
      → Serving answers a text xs b left → IsItemAt left (item_in x) used → is_followed x ≡ false
      → AreExchanges text (xs ++ x ∷ [])
  are_all_with [] x used a b text left h is last = (
    used,
    subst (λ (t : Bytes). IsItemAt t (item_in x) used) h.1 is,
    subst (λ (f : Bool). MatchBool f (AreExchanges (drop used text) []) (◌≡◌ {A = List Exchange} [] []))
        (sym last) refl,
  )
  are_all_with (y ∷ xs) x used a b text left h is last =
      let rest = are_all_with xs x used h.3 b (drop h.0 text) left h.5 is last in (
        h.0,
        h.1,
        subst (λ (f : Bool). MatchBool f (AreExchanges (drop h.0 text) (xs ++ x ∷ [])) (xs ++ x ∷ [] ≡ []))
            (sym h.2) rest,
      )

  -- ---- with what was written

  module _ (a b : State S) where
    -- the first item was served, behind which more is, so that less is left
    pub front_one : (held left : Bytes) (item : Item) (reply : Bytes) → Gives held (Some item) left
        → Replies answers a.service b.service item reply None → Appends a.written b.written reply
        → b.failures ≡ a.failures
        → ServesFront answers a b held left × (length left < length held)
    front_one held left item reply gives replies wrote same =
        let x = replies.exchange in
        let followed = open_followed x replies.ends in
        let goes : goes_on item ≡ true = ap goes_on (sym replies.is) ∙ (followed_open x followed).0 in
        let behind : left ≡ drop gives.0 held =
        gives.2 ∙ ap (λ (f : Bool). if f then drop gives.0 held else held) goes in
        let some = takes_some held item gives.0 gives.1 goes in (
          record {
            exchanges = x ∷ [];
            serving = (
              gives.0,
              subst (λ (i : Item). IsItemAt held i gives.0) (sym replies.is) gives.1,
              followed,
              b.service,
              replies.call,
              (refl, behind),
            );
            wrote =
                subst (Appends a.written b.written) (replies.says ∙ sym (append-nil (exchange_text x))) wrote;
            unfailed = same;
          },
          omega (arith, some.0, some.1, length-drop gives.0 held, ap (λ (t : Bytes). length t) behind),
        )

    -- more came behind the text
    pub front_more : (text left more : Bytes) → ServesFront answers a b text left
        → ServesFront answers a b (text ++ more) (left ++ more)
    front_more text left more h =
        record {
          exchanges = h.exchanges;
          serving = serving_more h.exchanges a.service b.service text left more h.serving;
          wrote = h.wrote;
          unfailed = h.unfailed;
        }

    -- more was served
    pub front_then : (m : State S) (text rest left : Bytes) → ServesFront answers a m text rest
        → ServesFront answers m b rest left → ServesFront answers a b text left
    front_then m text rest left g h = record {
      exchanges = g.exchanges ++ h.exchanges;
      serving = serving_then g.exchanges h.exchanges a.service m.service b.service text rest left g.serving
          h.serving;
      wrote = subst (Appends a.written b.written)
          (sym (flat_map-append exchange_text g.exchanges h.exchanges))
          (Appends-trans a.written m.written b.written _ _ g.wrote h.wrote);
      unfailed = h.unfailed ∙ g.unfailed;
    }

    -- ---- texts that were served whole

    -- up to what is unfinished
    pub text_open : (text left : Bytes) → ServesFront answers a b text left → IsUnfinished left
        → ServesText answers a b text None
    text_open text left h open_yet =
        let all = are_all h.exchanges a.service b.service text left h.serving open_yet in
        record {
          exchanges = h.exchanges;
          are = all.0;
          calls = serving_calls h.exchanges a.service b.service text left h.serving;
          wrote = h.wrote;
          ended = all.1;
          unfailed = h.unfailed;
        }

    -- up to the item that ends the connection
    pub text_ended : (m : State S) (text rest : Bytes) (end : End) → ServesFront answers a m text rest
        → ServesLast answers m b rest end → ServesText answers a b text (Some end)
    text_ended m text rest end g h =
        let x = h.replies.exchange in
        record {
          exchanges = g.exchanges ++ x ∷ [];
          are = are_all_with g.exchanges x h.used a.service m.service text rest g.serving
              (subst (λ (i : Item). IsItemAt rest i h.used) (sym h.replies.is) h.at)
              (ends_last x end h.replies.ends);
          calls = calls_then g.exchanges x a.service m.service b.service
              (serving_calls g.exchanges a.service m.service text rest g.serving) h.replies.call;
          wrote = subst (Appends a.written b.written)
              (sym (flat_map-append exchange_text g.exchanges (x ∷ [])))
              (Appends-trans a.written m.written b.written _ _ g.wrote
              (subst (Appends m.written b.written) (h.replies.says ∙ sym (append-nil (exchange_text x)))
              h.wrote));
          ended = ended_by_last g.exchanges x ∙ sym h.replies.ends;
          unfailed = h.unfailed ∙ g.unfailed;
        }

    -- either
    pub text_held : (text left : Bytes) (end : Option End) → ServesHeld answers a b text left end
        → ServesText answers a b text end
    text_held text left None h = text_open text left h.0 h.1
    text_held text left (Some end) h = text_ended h.0 text h.1 end h.2 h.3

  -- behind what was served before
  pub held_then : (a m b : State S) (text rest left : Bytes) (end : Option End)
      → ServesFront answers a m text rest → ServesHeld answers m b rest left end
      → ServesHeld answers a b text left end
  held_then a m b text rest left None g h = (front_then a b m text rest left g h.0, h.1)
  held_then a m b text rest left (Some end) g h = (h.0, h.1, front_then a h.0 m text rest h.1 g h.2, h.3)
