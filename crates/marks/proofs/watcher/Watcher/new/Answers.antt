use Rattle.std.proofs.Common.{rules, ◌≡◌, ◌∷◌, ◌++◌, []}
use Rattle.marks.specs.Eyes.{first_eye}
use Rattle.marks.proofs.Owners.{all_owners, last_eye}
use Rattle.marks.proofs.watcher.Watcher.new.Goals as goal

-- what is taken is the last of the first eyes
last : (c : goal.After-unwrap) → c.unwrap.result ≡ first_eye c.args.marks.now c.args.marks.now.words
last c =
    let items : c.args.eyes.now.items ≡ c.pop-last.new.self.items ++ c.unwrap.result ∷ [] = search rules in
    last_eye _ _ _ _ c.requires.eyes items

pub invariant_of-result : goal.invariant_of-result
invariant_of-result c = (λ i. (last c i).marks, c.requires.words)

pub returns : goal.returns
returns c = record {
  reads = last c;
  owners = all_owners _ _ _ _ c.requires.eyes (search rules) c.pop-last.ensures.rest;
}
