-- Precedence climbing: what is read after an operand.
use Rattle.std.specs.Prelude.{◌≡◌, ℕ, ◌-◌, ◌<◌, ◌≤◌, List, length}
use Rattle.chord_lexer.specs.declared.token.Kind.{Kind}
use Rattle.chord_tree.specs.ExprNodes.{level_symbol, level_tail, link_level, precedence, bare, node_at, node_links}
use Rattle.chord_tree.specs.Node.{End, ◌▸◌, Made}
use Rattle.chord_tree.specs.Tree.{ExprTree, LinkTree, LinkTrees, MoreLinks}
use Rattle.chord_parser.specs.Runs.{Reads}
use Rattle.chord_parser.specs.Reading.{Continues, IsOther, one_link}

-- No operator of this level, or of one below it, comes next.
pub record NoneUpTo (level : ℕ) (ks : List Kind) : Type 0 where
  pub none : (l : ℕ) → l ≤ level → IsOther l ks

-- The links of a level are read after its first operand, and give the whole chain.
pub record Chains (count level depth : ℕ) (first whole : ExprTree) (ks rest : List Kind) : Type 0 where
  pub link : LinkTree
  pub more : LinkTrees
  pub reads : Reads count (level_tail level) depth ks rest (node_links level (MoreLinks link more))
  pub node : node_at level whole ≡ Made (level_symbol level) (node_at (level - 1) first ▸ node_links level (MoreLinks link more) ▸ End)
  pub level_is : precedence whole ≡ level

-- A link of the level is read, and others may follow.
pub record IsLinkRead (count level depth : ℕ) (ks rest : List Kind) (link : LinkTree) : Type 0 where
  pub goes_on : Continues count (level_tail level) depth ks (level_tail level) depth rest (one_link level link)
  pub level_is : link_level link ≡ level
  pub fewer : length rest < length ks
  pub none : NoneUpTo (level - 1) rest

-- An operand with the chains after it is read, up to a level.
pub record Climbed (count depth level : ℕ) (ks left : List Kind) (whole : ExprTree) : Type 0 where
  pub reads : Reads count (level_symbol (precedence whole)) depth ks left (bare whole)
  pub within : precedence whole ≤ level
  pub none : NoneUpTo (precedence whole) left
