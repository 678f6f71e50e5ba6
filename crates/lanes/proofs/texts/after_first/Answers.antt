use Rattle.std.proofs.Common.{◌≡◌, ◌≤◌, ◌++◌, ℕ, List, drop, length, replicate, refl, sym, ap, ◌∙◌, arith}
use Rattle.std.proofs.lemmas.List.{length-replicate}
use Rattle.sha2.specs.Sha256.{compress}
use Rattle.lanes.specs.Texts.{IsWindow, after_first, block_at, tail}
use Rattle.lanes.proofs.Hashing.{first_block, with_another}
use Rattle.lanes.proofs.Windows.{IsWindow_blank}
use Rattle.lanes.proofs.texts.after_first.Goals as goal

-- a lane, whose block is the common one with the text's own head
in_lane : (common own head rest state new : List ℕ) (at : ℕ) → ((h : List ℕ) → length h ≡ at → IsWindow (replicate 64 0) 0 h → common ≡ block_at (tail (h ++ rest)) 0)
    → own ≡ head ++ drop (length head) common → at ≤ 64 → length head ≡ at → new ≡ compress state own → new ≡ after_first state (head ++ rest)
in_lane common own head rest state new at blank made short long en =
    let lz : length (replicate at 0) ≡ at = length-replicate {A = ℕ} at 0 in
    let zeros : List ℕ = replicate at 0 in
    let first : common ≡ block_at (tail (zeros ++ rest)) 0 = blank zeros lz (IsWindow_blank at) in
    let block : own ≡ block_at (tail (head ++ rest)) 0 =
    made ∙ ap (λ (x : List ℕ). head ++ drop (length head) x) first ∙ with_another zeros head rest (lz ∙ sym long) (omega arith) in
    first_block state (tail (head ++ rest)) own new block en

pub returns-clause-a : goal.returns-clause-a
returns-clause-a c = in_lane _ _ c.args.a.now _ _ _ _ c.block_of_rest-block.ensures c.with_head.ensures c.requires.short refl
    (c.compress.ensures 0 _ (omega arith) (c.make_schedule.ensures 0 _ (omega arith) c.words_of-words.ensures.a))

pub returns-clause-b : goal.returns-clause-b
returns-clause-b c = in_lane _ _ c.args.b.now _ _ _ _ c.block_of_rest-block.ensures c.with_head-2.ensures c.requires.short c.requires.b
    (c.compress.ensures 1 _ (omega arith) (c.make_schedule.ensures 1 _ (omega arith) c.words_of-words.ensures.b))

pub returns-clause-c : goal.returns-clause-c
returns-clause-c c = in_lane _ _ c.args.c.now _ _ _ _ c.block_of_rest-block.ensures c.with_head-3.ensures c.requires.short c.requires.c
    (c.compress.ensures 2 _ (omega arith) (c.make_schedule.ensures 2 _ (omega arith) c.words_of-words.ensures.c))

pub returns-clause-d : goal.returns-clause-d
returns-clause-d c = in_lane _ _ c.args.d.now _ _ _ _ c.block_of_rest-block.ensures c.with_head-4.ensures c.requires.short c.requires.d
    (c.compress.ensures 3 _ (omega arith) (c.make_schedule.ensures 3 _ (omega arith) c.words_of-words.ensures.d))
