-- What a lead changes is what its step changes.
use Rattle.ids.specs.declared.limits.TheConstants.{MOST_BLOCKS}
use Rattle.ids.specs.declared.fault.Fault.{Fault}
use Rattle.ids.specs.declared.fault.Fault.TheVariants as fault
use Rattle.std.proofs.Common.{◌≡◌, ◌&&◌, ◌||◌, Bool, true, false, [], ◌∷◌, length, cond, refl, sym, ap, ◌∙◌}
use Rattle.std.proofs.Common.{subst, Option, Some, None, Result, Ok, Err, nat_le, arith}
use Rattle.std.specs.Prelude.{option_map}
use Rattle.std.specs.Option.{unwrap_or}
use Rattle.std.specs.Str.{bytes_eq}
use Rattle.definitions.specs.Bytes.{Bytes}
use Rattle.definitions.specs.Lists.{Among}
use Rattle.definitions.specs.Branches.{Branch, branch_eq}
use Rattle.definitions.specs.Digests.{digest_of}
use Rattle.definitions.specs.Keyrings.{Keys}
use Rattle.definitions.specs.Checks.{identity_of}
use Rattle.definitions.specs.Trees.{blocks, find_in}
use Rattle.definitions.specs.Chronicles.{Step, Step.noted, Note.led_from, Chronicle, window, standing_blocks}
use Rattle.definitions.specs.Chronicles.{IsSound, lock}
use Rattle.definitions.specs.States.{qc_high, leaf, find_block}
use Rattle.definitions.specs.Grounds.{may_lead_from}
use Rattle.definitions.specs.Rulings.{Input.lead_in, Ruling, Ruling.due, Ruling.refusing, lead, ruling, conflicts}
use Rattle.definitions.specs.Sendings.{sendings}
use Rattle.definitions.proofs.Horizons.{horizon-noted, standing-noted, high-window}
use Rattle.definitions.proofs.Sound.{Keeps, ruling-sound}
use Rattle.definitions.proofs.Trees.{found-in}
use Rattle.linear_law.proofs.Leaves.{high-known}
use Rattle.block_tree.specs.Finding.{is_justified_in}
use Rattle.pacemaker.proofs.Reached.{paced-still}
use Rattle.vote_collector.specs.Following.{IsVotesOf}
use Rattle.vote_collector.proofs.Steps.{followed-lead}
use Rattle.replica_rules.specs.Ruled.{ref_of}
use Rattle.replica_rules.specs.declared.block_ref.BlockRef.{BlockRef}
use Rattle.replica_rules.proofs.Takes.{ruled-noted}
use Rattle.replica.specs.declared.change.Change.{Change}
use Rattle.replica.specs.declared.state.High.{High}
use Rattle.replica.specs.Replay.{or_genesis}
use Rattle.replica.specs.Kept.{Variables, StateParts, high_of, own_of, variables_of, IsStateOf}
use Rattle.replica.specs.Changes.{changed, votes_after, left_above, IsStep}
use Rattle.replica.specs.Grounds.{is_own, lead_change, IsLeadAt, IsLead}
use Rattle.replica.specs.StepsTo.{Follows, StepsTo, answer, after}
use Rattle.replica.proofs.OnGrounds.{justified-is, own-is}
use Rattle.replica.proofs.Stays.{window-block}
use Rattle.replica.proofs.Stays.{proposed-same}
use Rattle.replica.proofs.Steps.{refuses, refused, stands, kept_at, where-kept}

module _ (keys : Keys) (c : Chronicle) (kept : StateParts) (is : IsStateOf keys c (kept_at keys c kept)) (d : Bytes)
    (b : Branch) (found : find_in d (window c) ≡ Some b) where
  abbrev s : StateParts
  s = kept_at keys c kept

  abbrev v : Variables
  v = variables_of keys c

  abbrev st : Step
  st = noted (led_from b)

  abbrev block : BlockRef
  block = record { digest = d; height = length b }

  -- it stands in the tree
  among : Among b (window c)
  among = (found-in d (window c) b found).0

  named : digest_of b ≡ d
  named = (found-in d (window c) b found).1

  block-is : block ≡ ref_of b
  block-is = λ i. record { digest = sym named i; height = length b }

  -- the lead as it is stored
  step-is : noted (led_from (or_genesis (find_in d (blocks (standing_blocks c))))) ≡ st
  unfolding window
  step-is = ap (λ (o : Option Branch). noted (led_from (or_genesis o))) found

  -- the highest certificate
  abbrev raised_to : Bool → Option High
  raised_to t = cond t None (Some (record { block = block; certificate = record { digest = d; votes = [] } }))

  same-test : bytes_eq (digest_of (qc_high keys.sizes c).block) d ≡ branch_eq (qc_high keys.sizes c).block b
  same-test =
      ap (bytes_eq (digest_of (qc_high keys.sizes c).block)) (sym named)
      ∙ window-block keys.sizes c is.sound (qc_high keys.sizes c).block b
      (high-window keys.sizes c is.sound.lawful (qc_high keys.sizes c).block
      (high-known keys.sizes c is.sound.lawful is.sound.known) (omega arith)) among

  high-is : unwrap_or (raised_to (bytes_eq (digest_of (qc_high keys.sizes c).block) d))
      (high_of (qc_high keys.sizes c))
      ≡ high_of (qc_high keys.sizes (st ∷ c))
  unfolding qc_high
  high-is =
      ap (λ (t : Bool). unwrap_or (raised_to t) (high_of (qc_high keys.sizes c))) same-test
      ∙ by (branch_eq (qc_high keys.sizes c).block b)
    where
      by : (t : Bool) → unwrap_or (raised_to t) (high_of (qc_high keys.sizes c))
          ≡ high_of (cond t (qc_high keys.sizes c)
          (record { block = b; certificate = record { digest = digest_of b; votes = [] } }))
      by true = refl
      by false = λ i. record { block = block-is i; certificate = record { digest = sym named i; votes = [] } }

  lead-step : IsStep keys c st s.pace (lead_change v block)
  unfolding sendings leaf
  lead-step = record {
    variables = λ i. record {
      chronicle = step-is i ∷ c;
      most = MOST_BLOCKS;
      horizon = sym (horizon-noted (led_from b) c refl) i;
      stored = sym (standing-noted (led_from b) c refl) i;
      rules = sym (ruled-noted (led_from b) c) i;
      high = high-is i;
      leaf = block-is i;
      own = option_map own_of (sym (proposed-same (identity_of keys) st c refl) i);
    };
    sizes = is.sizes;
    pace = paced-still st c s.pace tt is.pace;
    out = refl;
  }

  votes-are : IsVotesOf keys.sizes (st ∷ c) (votes_after (lead_change v block) s.votes.kept)
  votes-are = by (bytes_eq (digest_of (qc_high keys.sizes c).block) d)
    where
      by : (t : Bool) → IsVotesOf keys.sizes (st ∷ c) (left_above (raised_to t) [])
      by true = followed-lead keys.sizes c b
      by false = followed-lead keys.sizes c b

  pub leads-so : IsSound keys.sizes (st ∷ c) → Follows keys (due st) c (Ok []) (changed (lead_change v block) s)
  unfolding conflicts
  leads-so so = stands keys c st (lead_change v block) s refl so refl is lead-step votes-are

  -- whether it may be led from
  test-is : may_lead_from (identity_of keys) b c
      ≡ (nat_le v.rules.lock.height (length b) && (is_justified_in d v.stored || is_own keys v d))
  unfolding may_lead_from
  test-is = λ i. nat_le (length (lock c)) (length b)
      && (justified-is keys c is.sound d b among named i || own-is keys c is.sound d b among named i)

-- by what is found
lead-by : (keys : Keys) (c : Chronicle) (kept : StateParts) (is : IsStateOf keys c (kept_at keys c kept)) (d : Bytes)
    (result : Result Change Fault) (o : Option Branch) → find_in d (window c) ≡ o
    → Keeps (identity_of keys) c (lead (identity_of keys) o c)
    → IsLeadAt keys (kept_at keys c kept) d result o
    → Follows keys (lead (identity_of keys) o c) c (answer result) (after result (kept_at keys c kept))
lead-by keys c kept is d result None e so h =
    refused keys _ c fault.UnknownParent _ result h
    (refuses keys c fault.UnknownParent (kept_at keys c kept) refl is)
lead-by keys c kept is d result (Some b) e so h =
    by (may_lead_from (identity_of keys) b c) so
    (h ∙ ap answered (sym (test-is keys c kept is d b e)))
  where
    answered : Bool → Result Change Fault
    answered t = cond t
        (Ok (lead_change (variables_of keys c) (record { digest = d; height = length b })))
        (Err fault.UnknownParent)

    ruled : Bool → Ruling
    ruled t = cond t (due (noted (led_from b))) (refusing fault.UnknownParent)

    by : (t : Bool) → Keeps (identity_of keys) c (ruled t) → result ≡ answered t
        → Follows keys (ruled t) c (answer result) (after result (kept_at keys c kept))
    by true so r = subst (λ (x : Result Change Fault).
        Follows keys (due (noted (led_from b))) c (answer x) (after x (kept_at keys c kept))) (sym r)
        (leads-so keys c kept is d b e so)
    by false so r = refused keys _ c fault.UnknownParent _ result r
        (refuses keys c fault.UnknownParent (kept_at keys c kept) refl is)

-- what a lead comes to
pub lead-decided : (keys : Keys) (c : Chronicle) (s : StateParts) (d : Bytes) (result : Result Change Fault)
    → IsLead keys s d result → IsStateOf keys c s → StepsTo keys (lead_in d) c (answer result) (after result s)
unfolding ruling find_block window
lead-decided keys c s d result h is = where-kept keys c s
    (λ x. IsLead keys x d result → StepsTo keys (lead_in d) c (answer result) (after result x)) is
    (λ k h. lead-by keys c s k d result (find_in d (window c)) refl
    (ruling-sound (identity_of keys) (lead_in d) c tt is.sound) h) h
