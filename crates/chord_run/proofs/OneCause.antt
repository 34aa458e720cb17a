-- A source has at most one cause of a refusal.
use Rattle.std.proofs.Common.{◌≡◌, ℕ, List, refl, sym, ap, subst, ◌∙◌, inl, inr, arith}
use Rattle.chord_lexer.proofs.Chains.{not_both, one_list, one_place}
use Rattle.chord_parser.proofs.OneVerdict.{at_only, tall_only}
use Rattle.chord_parser.specs.declared.parser.ParseFault.TheVariants as parser
use Rattle.chord_classes.specs.Breaks.{AllJoin, IsBreak, every_rule}
use Rattle.chord_tree.specs.Program.{token_kinds}
use Rattle.chord_run.specs.Refusals.{IsAnsweredBy, IsBroken, IsCause}
use Rattle.chord_run.specs.Sources.{IsShort}
use Rattle.chord_run.specs.declared.refusal.Refusal.{Refusal}
use Rattle.chord_run.specs.declared.refusal.Refusal.TheVariants.{Long, Bad, Syntax, Tall, Rule}
use Rattle.chord_run.proofs.Causes.{one_program, syntax_not_program, tall_not_program}

-- a source has not too many bytes where it is short
not_long : (source : List ℕ) (refusal : Refusal) → IsCause source Long → IsShort source → Long ≡ refusal
not_long source refusal long short = absurd (omega arith)

-- a source that the parser answers by a token has the refusal at that token alone
one_syntax : (source : List ℕ) (j k : ℕ) → IsAnsweredBy source (parser.At j) → IsAnsweredBy source (parser.At k) → j ≡ k
one_syntax source j k a b =
    let same = one_list source a.tokens b.tokens a.read b.read in
    elim (at_only (token_kinds a.tokens) (parser.At j) a.answer k (rw same b.answer)) [
      | inl memory ↦ absurd (cc)
      | inr at ↦ cc
    ]

-- likewise a source that has a token too deep
one_tall : (source : List ℕ) (j k : ℕ) → IsAnsweredBy source (parser.Tall j) → IsAnsweredBy source (parser.Tall k) → j ≡ k
one_tall source j k a b =
    let same = one_list source a.tokens b.tokens a.read b.read in
    elim (tall_only (token_kinds a.tokens) (parser.Tall j) a.answer k (rw same b.answer)) [
      | inl memory ↦ absurd (cc)
      | inr tall ↦ cc
    ]

-- no source has both
syntax_is_not_tall : (source : List ℕ) (j k : ℕ) → IsAnsweredBy source (parser.At j) → IsAnsweredBy source (parser.Tall k) → ⊥
syntax_is_not_tall source j k a b =
    let same = one_list source a.tokens b.tokens a.read b.read in
    elim (tall_only (token_kinds a.tokens) (parser.At j) a.answer k (rw same b.answer)) [
      | inl memory ↦ cc
      | inr tall ↦ cc
    ]

-- the program of a source has one break that comes first
one_broken : AllJoin → (source : List ℕ) (r j s k : ℕ) → IsBroken source r j → IsBroken source s k → (r ≡ s) × (j ≡ k)
one_broken joins source r j s k a b =
    let same = one_program source a.program b.program a.of_source b.of_source in
    (joins b.program every_rule every_rule (λ rule at broken. inl refl)).only_one r j s k (subst (λ z. IsBreak every_rule z r j) same a.first) b.first

-- a source has at most one cause of a refusal
pub one_cause : AllJoin → (source : List ℕ) (r s : Refusal) → IsCause source r → IsCause source s → r ≡ s
one_cause joins source Long Long a b = refl
one_cause joins source Long (Bad k) a b = not_long source (Bad k) a b.0
one_cause joins source Long (Syntax k) a b = not_long source (Syntax k) a b.short
one_cause joins source Long (Tall k) a b = not_long source (Tall k) a b.short
one_cause joins source Long (Rule s k) a b = not_long source (Rule s k) a b.of_source.short
one_cause joins source (Bad j) Long a b = sym (not_long source (Bad j) b a.0)
one_cause joins source (Bad j) (Bad k) a b = ap Bad (one_place source j k a.1 b.1)
one_cause joins source (Bad j) (Syntax k) a b = absurd (not_both source b.tokens j b.read a.1)
one_cause joins source (Bad j) (Tall k) a b = absurd (not_both source b.tokens j b.read a.1)
one_cause joins source (Bad j) (Rule s k) a b = absurd (not_both source b.of_source.tokens j b.of_source.read a.1)
one_cause joins source (Syntax j) Long a b = sym (not_long source (Syntax j) b a.short)
one_cause joins source (Syntax j) (Bad k) a b = absurd (not_both source a.tokens k a.read b.1)
one_cause joins source (Syntax j) (Syntax k) a b = ap Syntax (one_syntax source j k a b)
one_cause joins source (Syntax j) (Tall k) a b = absurd (syntax_is_not_tall source j k a b)
one_cause joins source (Syntax j) (Rule s k) a b = absurd (syntax_not_program source b.program j a b.of_source)
one_cause joins source (Tall j) Long a b = sym (not_long source (Tall j) b a.short)
one_cause joins source (Tall j) (Bad k) a b = absurd (not_both source a.tokens k a.read b.1)
one_cause joins source (Tall j) (Syntax k) a b = absurd (syntax_is_not_tall source k j b a)
one_cause joins source (Tall j) (Tall k) a b = ap Tall (one_tall source j k a b)
one_cause joins source (Tall j) (Rule s k) a b = absurd (tall_not_program source b.program j a b.of_source)
one_cause joins source (Rule r j) Long a b = sym (not_long source (Rule r j) b a.of_source.short)
one_cause joins source (Rule r j) (Bad k) a b = absurd (not_both source a.of_source.tokens k a.of_source.read b.1)
one_cause joins source (Rule r j) (Syntax k) a b = absurd (syntax_not_program source a.program k b a.of_source)
one_cause joins source (Rule r j) (Tall k) a b = absurd (tall_not_program source a.program k b a.of_source)
one_cause joins source (Rule r j) (Rule s k) a b = let same = one_broken joins source r j s k a b in ap (λ z. Rule z j) same.0 ∙ ap (λ z. Rule s z) same.1
