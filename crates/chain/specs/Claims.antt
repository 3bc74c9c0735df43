-- What a chain's answer means: it is broken exactly by a number past the end or met before.
use Rattle.std.specs.Prelude.{ℕ, suc, ◌≤◌, ◌<◌, ◌≡◌, true, false, ◌⊎◌, List, [], ◌∷◌, ◌++◌, length, Option, Some, None}
use Rattle.chain.specs.Chain.{next_of, records_in, is_among, chain_of}

-- a chain reaches record i behind the frames' records `met`
pub data Reaches (b : List ℕ) : List ℕ → ℕ → Type 0 where
  start : Reaches b [] 0
  next : {met : List ℕ} {i : ℕ} → Reaches b met i → (next_of b i ≡ 0 → ⊥) → next_of b i < records_in b → is_among (next_of b i) met ≡ false
      → Reaches b (met ++ next_of b i ∷ []) (next_of b i)

-- a chain that is broken: at a record that it reaches, the next number is past the end or met before
pub record Breaks (b : List ℕ) : Type 0 where
  pub met : List ℕ
  pub at : ℕ
  pub reached : Reaches b met at
  pub more : next_of b at ≡ 0 → ⊥
  pub bad : (records_in b ≤ next_of b at) ⊎ (is_among (next_of b at) met ≡ true)

-- a chain that ends: the next number of the last record that it reaches is 0
pub record Ends (b : List ℕ) (ks : List ℕ) : Type 0 where
  pub last : ℕ
  pub reached : Reaches b ks last
  pub done : next_of b last ≡ 0

abbrev pub Means : List ℕ → Option (List ℕ) → Type 0
Means b (Some ks) = Ends b ks
Means b None = Breaks b

-- row 20 is what it says
abbrev pub ChainMeans : Type 0
ChainMeans = (b : List ℕ) → 0 < records_in b → Means b (chain_of b)

-- a chain reaches no more frames than there are records besides record 0
abbrev pub FewFrames : Type 0
FewFrames = (b met : List ℕ) (i : ℕ) → 0 < records_in b → Reaches b met i → suc (length met) ≤ records_in b
