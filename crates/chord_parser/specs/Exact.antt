-- What a refusal of tokens says.
use Rattle.std.specs.Prelude.{◌≡◌, ℕ, ◌<◌, List, [], ◌∷◌, ◌++◌, length}
use Rattle.chord_lexer.specs.declared.token.Kind.{Kind}
use Rattle.chord_tree.specs.Derivation.{Spelled, Want, kinds_of, NotTall, Derives}

-- The tokens begin with those of the prefix and the first of the suffix. Where the suffix is empty, they are those of the prefix.
abbrev pub BeginsThrough : List Kind → List Kind → List Kind → Type 0
BeginsThrough ks prefix [] = ks ≡ prefix
BeginsThrough ks prefix (k ∷ suffix) = (rest : List Kind) × (ks ≡ prefix ++ (k ∷ rest))

-- The first token that does not fit: with those before it, none too deep, something derived begins; with it too, nothing.
pub record IsWrong (s : List Want) (ks : List Kind) (left : ℕ) : Type 0 where
  pub prefix : List Spelled
  pub rest : List Spelled
  pub suffix : List Kind
  pub cut : ks ≡ kinds_of prefix ++ suffix
  pub count : length suffix ≡ left
  pub not_tall : NotTall prefix
  pub opens : Derives s (prefix ++ rest)
  pub refuses : (w : List Spelled) → BeginsThrough (kinds_of w) (kinds_of prefix) suffix → Derives s w → ⊥

-- The first token that is too deep: with those up to it something derived begins.
pub record IsTall (s : List Want) (ks : List Kind) (left : ℕ) : Type 0 where
  pub prefix : List Spelled
  pub kind : Kind
  pub depth : ℕ
  pub rest : List Spelled
  pub suffix : List Kind
  pub cut : ks ≡ kinds_of prefix ++ (kind ∷ suffix)
  pub count : length (kind ∷ suffix) ≡ left
  pub not_tall : NotTall prefix
  pub tall : 200 < depth
  pub opens : Derives s (prefix ++ ((kind, depth) ∷ rest))
