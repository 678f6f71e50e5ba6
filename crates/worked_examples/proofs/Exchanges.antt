-- Long dialogues with the cache, one exchange after the other: computed in one go they take more steps than the
-- prover spends on a term.
use Rattle.std.proofs.Common.{◌≡◌, ◌∙◌, ◌+◌, ◌++◌, List, [], ◌∷◌, map, refl, ap}
use Rattle.std.specs.FinMap as map
use Rattle.definitions.specs.Bytes.{Bytes}
use Rattle.definitions.specs.Requests.{Asked}
use Rattle.definitions.specs.Replies.{Value, reply_text}
use Rattle.definitions.specs.Cache.{Cache, Outcome, apply}
use Rattle.worked_examples.specs.Cache.{replies}

-- a request, and what it does
abbrev pub Exchange : Type 0
Exchange = Asked × Outcome

-- the texts of the replies
abbrev pub texts : List Exchange → Bytes
texts [] = []
texts (e ∷ exchanges) = reply_text e.1.1 ++ texts exchanges

-- if each request does that to the cache which the one before left, then P
abbrev pub IfEachDoes : Cache → List Exchange → Type 0 → Type 0
IfEachDoes cache [] P = P
IfEachDoes cache (e ∷ exchanges) P = apply cache e.0 ≡ e.1 → IfEachDoes e.1.0 exchanges P

-- the replies of a dialogue are those of its exchanges, whatever follows from that
replied : (cache : Cache) (exchanges : List Exchange) (P : Type 0)
    → (replies cache (map (λ e. e.0) exchanges) ≡ texts exchanges → P) → IfEachDoes cache exchanges P
replied cache [] P so = so refl
replied cache (e ∷ exchanges) P so = λ does. replied e.1.0 exchanges P (λ rest. so (
    ap (λ (o : Outcome). reply_text o.1 ++ replies o.0 (map (λ x. x.0) exchanges)) does
    ∙ ap (λ (text : Bytes). reply_text e.1.1 ++ text) rest))

pub replies-are : (cache : Cache) (exchanges : List Exchange)
    → IfEachDoes cache exchanges (replies cache (map (λ e. e.0) exchanges) ≡ texts exchanges)
replies-are cache exchanges = replied cache exchanges _ (λ same. same)

-- ---- the caches that are left

-- this stands under a key, which was used
abbrev pub holding : Cache → Value → Cache
holding cache v = record cache {
  entries = map.insert cache.entries v.key (record {
    flags = v.flags;
    stored = v.stored;
    cas_unique = v.cas_unique;
    last_use = cache.uses + 1;
  });
  uses = cache.uses + 1;
}

-- a change gave it
abbrev pub given : Cache → Value → Cache
given cache v = record (holding cache v) { changes = cache.changes + 1 }

-- a key went
abbrev pub without : Cache → Bytes → Cache
without cache key = record cache { entries = map.remove cache.entries key }
