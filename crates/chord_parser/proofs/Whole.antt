-- The answer over a whole list of tokens.
use Rattle.std.proofs.Common.{◌≡◌, ℕ, ◌+◌, ◌-◌, ◌≤◌, List, [], ◌∷◌, ◌++◌, length, map, refl, sym, ap, subst, ◌∙◌, arith, true, append-nil}
use Rattle.std.proofs.lemmas.List.{length-append}
use Rattle.chord_lexer.specs.declared.token.Kind.{Kind}
use Rattle.chord_lexer.specs.declared.token.Token.{Token}
use Rattle.chord_tree.specs.Symbols.{Whole_program}
use Rattle.chord_tree.specs.Grammar.{nonterminal_count}
use Rattle.chord_tree.specs.Derivation.{kinds_of, done}
use Rattle.chord_tree.specs.Node.{spell, IsNumbered}
use Rattle.chord_tree.specs.Tree.{ProgramTree}
use Rattle.chord_tree.specs.ClassNodes.{node_program}
use Rattle.chord_tree.specs.Program.{IsProgram, spelling, token_kinds, without_span}
use Rattle.chord_tree.proofs.OneTree.{derives, start_legal}
use Rattle.chord_tree.proofs.BackClasses.{only_one}
use Rattle.chord_parser.specs.declared.faults.Fault.{Fault}
use Rattle.chord_parser.specs.declared.faults.Fault.TheVariants as faults
use Rattle.chord_parser.specs.declared.parser.ParseFault.{ParseFault}
use Rattle.chord_parser.specs.declared.parser.ParseFault.TheVariants as answers
use Rattle.chord_parser.specs.Answers.{start, IsNotTall, IsAnswer, IsStopped}
use Rattle.chord_parser.specs.Exact.{BeginsThrough, IsWrong, IsTall}
use Rattle.chord_parser.specs.Reading.{StopsAs}
use Rattle.chord_parser.specs.Runs.{Runs, Reads, Verdict}
use Rattle.chord_parser.proofs.Finish.{else_first}
use Rattle.chord_parser.proofs.Outcomes.{Outcome, outcome, by_kinds}
use Rattle.chord_parser.proofs.Reading.{spells, read_not_tall, read_numbered}
use Rattle.chord_parser.proofs.Fit.{node_fits}
use Rattle.chord_parser.proofs.Chains.{told_size}
use Rattle.chord_parser.proofs.Prefix.{one_prefix, alike, not_tall_at}

-- a whole program is wanted without any `else`, but as the first symbol
start_else_first : else_first start ≡ true
unfolding nonterminal_count
start_else_first = refl

-- a verdict on tokens that are to be a program says what is so of them
exact : {ks : List Kind} {v : Verdict} → Runs start ks v → Outcome start ks v
exact r = outcome r start_else_first start_legal

-- no more tokens are left at a refusal than there are
wrong_within : (ks : List Kind) (n : ℕ) → IsWrong start ks n → n ≤ length ks
wrong_within ks n o = let e = ap length o.cut ∙ length-append (kinds_of o.prefix) o.suffix in let c = o.count in omega arith

-- no more tokens are left at the first that is tall than there are
tall_within : (ks : List Kind) (n : ℕ) → IsTall start ks n → n ≤ length ks
tall_within ks n o = let e = ap length o.cut ∙ length-append (kinds_of o.prefix) (o.kind ∷ o.suffix) in let c = o.count in omega arith

-- where the reader stops, the tokens are refused
pub stopped : (ks : List Kind) (fault : Fault) → StopsAs Whole_program 0 ks fault → IsStopped ks fault
stopped ks faults.Memory h = tt
stopped ks (faults.At n) h = let o = by_kinds start ks n (exact (h [])) in (wrong_within ks n o, o)
stopped ks (faults.Tall n) h = let o = exact (h []) in (tall_within ks n o, o)

-- the tokens are those of the program, none of them too deep
pub record IsWholeFound (ks : List Kind) (t : ProgramTree) : Type 0 where
  pub program : IsProgram t
  pub spelled : spelling t ≡ ks
  pub not_tall : IsNotTall t

-- where all is read, the tokens are those of the program
pub found : (count : ℕ) (ts : List Token) (rest : List Kind) (t : ProgramTree) → count ≡ length ts → rest ≡ [] → Reads count Whole_program 0 (token_kinds ts) rest (node_program t) → IsWholeFound (token_kinds ts) t
unfolding nonterminal_count
found count ts rest t e h r =
    let r' : Reads count Whole_program 0 (token_kinds ts) [] (node_program t) = subst (λ z. Reads count Whole_program 0 (token_kinds ts) z (node_program t)) h r in
    let k : count - length (token_kinds ts) ≡ 0 = (let z = told_size ts in omega arith) in
    let l : length (token_kinds ts) ≤ count = (let z = told_size ts in omega arith) in
    record {
      program = record { derived = node_fits r' refl [] refl; numbered = subst (λ z. IsNumbered (node_program t) z) k (read_numbered r' l) };
      spelled = spells r' [] refl;
      not_tall = read_not_tall r' [] tt;
    }

-- a stop at a token, by its number
pub at_parts : (ts : List Token) (f : Fault) (n : ℕ) → f ≡ faults.At n → IsStopped (token_kinds ts) f → (n ≤ length ts) × (x : ℕ) × (length ts - n + x ≡ length (token_kinds ts)) × IsWrong start (token_kinds ts) x
at_parts ts f n e h = let s = subst (λ z. IsStopped (token_kinds ts) z) e h in let y = told_size ts in let l = s.0 in (omega arith, n, omega arith, s.1)

-- a stop at a tall token, by its number
pub tall_parts : (ts : List Token) (f : Fault) (n : ℕ) → f ≡ faults.Tall n → IsStopped (token_kinds ts) f → (n ≤ length ts) × (x : ℕ) × (length ts - n + x ≡ length (token_kinds ts)) × IsTall start (token_kinds ts) x
tall_parts ts f n e h = let s = subst (λ z. IsStopped (token_kinds ts) z) e h in let y = told_size ts in let l = s.0 in (omega arith, n, omega arith, s.1)

-- a prefix and a suffix begin with the prefix and the first token of the suffix
begins_append : (fs suffix : List Kind) → BeginsThrough (fs ++ suffix) fs suffix
begins_append fs [] = append-nil fs
begins_append fs (k ∷ suffix) = (suffix, refl)

-- tokens of a program are not refused
pub not_wrong : (ks : List Kind) (t : ProgramTree) (left : ℕ) → IsProgram t → spelling t ≡ ks → IsWrong start ks left → ⊥
not_wrong ks t left a e o = o.refuses (spell (node_program t) 0 []) (subst (λ z. BeginsThrough z (kinds_of o.prefix) o.suffix) (sym (e ∙ o.cut)) (begins_append (kinds_of o.prefix) o.suffix)) (derives a.derived done)

-- nor found too deep where none is
pub never_tall : (ks : List Kind) (t : ProgramTree) (left : ℕ) → IsProgram t → IsNotTall t → spelling t ≡ ks → IsTall start ks left → ⊥
never_tall ks t left a l e o =
    let al = alike o.prefix o.kind o.depth o.rest (spell (node_program t) 0 []) o.suffix (e ∙ o.cut) in
    let h = one_prefix o.prefix o.depth o.opens (derives a.derived done) refl al start_legal in
    let m = not_tall_at o.prefix (spell (node_program t) 0 []) o.depth l h in
    let d = o.tall in
    omega arith

-- tokens of a program are refused for want of memory alone
pub only_memory : (ks : List Kind) (f : ParseFault) → IsAnswer ks f → (t : ProgramTree) → IsProgram t → IsNotTall t → spelling t ≡ ks → f ≡ answers.Memory
only_memory ks answers.Memory h t a l e = refl
only_memory ks (answers.At k) h t a l e = absurd (not_wrong ks t h.0 a e h.2)
only_memory ks (answers.Tall k) h t a l e = absurd (never_tall ks t h.0 a l e h.2)

-- tokens have one program at most
pub the_one : (ks : List Kind) (u : ProgramTree) → IsWholeFound ks u → (t : ProgramTree) → IsProgram t → spelling t ≡ ks → u ≡ t
the_one ks u f t a e = only_one u t f.program a (f.spelled ∙ sym e)

-- the kinds of a program's tokens are those that it spells
pub told_unplaced : (ks : List Kind) → token_kinds (map without_span ks) ≡ ks
told_unplaced [] = refl
told_unplaced (k ∷ ks) = ap (λ z. k ∷ z) (told_unplaced ks)

-- what is spelled is spelled again
pub spelled_again : (t u : ProgramTree) (ts : List Token) → ts ≡ map without_span (spelling t) → spelling u ≡ token_kinds ts → spelling t ≡ spelling u
spelled_again t u ts e f = sym (f ∙ ap token_kinds e ∙ told_unplaced (spelling t))
