-- A deployment, and its file.
use Rattle.std.specs.Prelude.{◌≡◌, ◌≢◌, ℕ, ◌+◌, ◌≤◌, List, [], ◌∷◌, ◌++◌, length, sum, decimal, codes}
use Rattle.std.specs.List.{AllByRecursion}
use Rattle.ids.specs.Sizes.{Sizes, AreSizes, replicas}
use Rattle.definitions.specs.Bytes.{Bytes}
use Rattle.deployment.specs.Fields.{IsAddress, numbered}

-- a deployment: its sizes, where each replica is reached, and how many clients each front has
pub record Deployment : Type 0 where
  pub sizes : Sizes
  pub addresses : List Bytes
  pub fronts : List ℕ

-- so many addresses
abbrev pub AreAddresses : ℕ → List Bytes → Type 0
AreAddresses count addresses = (length addresses ≡ count) × AllByRecursion IsAddress addresses

-- fronts, each with some clients, and together with so many
abbrev pub AreFronts : ℕ → List ℕ → Type 0
AreFronts clients fronts = AllByRecursion (λ some. 1 ≤ some) fronts × (sum fronts ≡ clients)

-- each replica has an address, and each client is at one front
abbrev pub IsDeployment : Deployment → Type 0
IsDeployment d =
    AreSizes d.sizes × AreAddresses (replicas d.sizes) d.addresses × AreFronts d.sizes.clients d.fronts

-- a line, and what stands behind it
abbrev pub line : Bytes → Bytes → Bytes
line words rest = words ++ 10 ∷ rest

-- the lines of the sizes, and what stands behind them
abbrev pub sizes_text : Sizes → Bytes → Bytes
sizes_text sizes rest =
    line (codes "faults " ++ decimal sizes.faults)
    (line (codes "clients " ++ decimal sizes.clients) (line (codes "keys-held " ++ decimal sizes.most_keys) rest))

-- the lines of the replicas from one on, and what stands behind them
abbrev pub replicas_text : ℕ → List Bytes → Bytes → Bytes
replicas_text i [] rest = rest
replicas_text i (address ∷ more) rest =
    line (codes "replica " ++ (numbered i ++ address)) (replicas_text (i + 1) more rest)

-- the lines of the fronts from one on, and what stands behind them
abbrev pub fronts_text : ℕ → List ℕ → Bytes → Bytes
fronts_text k [] rest = rest
fronts_text k (clients ∷ more) rest =
    line (codes "front " ++ (numbered k ++ decimal clients)) (fronts_text (k + 1) more rest)

-- the file of a deployment
abbrev pub text_of : Deployment → Bytes
text_of d = sizes_text d.sizes (replicas_text 0 d.addresses (fronts_text 0 d.fronts []))

-- the text is the file of no deployment
abbrev pub IsNoFile : Bytes → Type 0
IsNoFile text = (d : Deployment) → IsDeployment d → text ≢ text_of d

-- no text is the file of two deployments
abbrev pub IsOfOneDeployment : Type 0
IsOfOneDeployment = (c d : Deployment) → IsDeployment c → IsDeployment d → text_of c ≡ text_of d → c ≡ d
