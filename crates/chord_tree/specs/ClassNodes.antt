-- The tree of the grammar that a class stands for, and a program.
use Rattle.std.specs.Prelude.{ℕ, List, [], ◌∷◌, Option, Some, None}
use Rattle.chord_lexer.specs.declared.token.Keyword.{Keyword}
use Rattle.chord_lexer.specs.declared.token.Keyword.TheVariants as keywords
use Rattle.chord_lexer.specs.declared.token.Mark.TheVariants as marks
use Rattle.chord_tree.specs.declared.names.Name.{Name}
use Rattle.chord_tree.specs.declared.names.ValueType.{ValueType}
use Rattle.chord_tree.specs.declared.names.ValueType.TheVariants as types
use Rattle.chord_tree.specs.declared.classes.ModifierKeyword.{ModifierKeyword}
use Rattle.chord_tree.specs.declared.classes.ModifierKeyword.TheVariants as modifiers
use Rattle.chord_tree.specs.declared.classes.Modifier.{Modifier}
use Rattle.chord_tree.specs.declared.classes.ReturnType.{ReturnType}
use Rattle.chord_tree.specs.declared.classes.ReturnType.TheVariants as results
use Rattle.chord_tree.specs.declared.classes.Formal.{Formal}
use Rattle.chord_tree.specs.declared.classes.NamePart.{NamePart}
use Rattle.chord_tree.specs.Symbols as grammar
use Rattle.chord_tree.specs.Node.{Node, End, ◌▸◌, Made}
use Rattle.chord_tree.specs.Tree.{FormalsTree, HeaderTree, MemberTree, ConstructorMember, ChordMember, ClassTree, UsingTree, ProgramTree, BlockTree}
use Rattle.chord_tree.specs.ExprNodes.{keyword_leaf, mark_leaf, name}
use Rattle.chord_tree.specs.StmtNodes.{semicolon, basic_keyword, node_block}

-- the word of a modifier
abbrev pub modifier_keyword : ModifierKeyword → Keyword
modifier_keyword modifiers.Public = keywords.Public
modifier_keyword modifiers.Private = keywords.Private
modifier_keyword modifiers.Protected = keywords.Protected
modifier_keyword modifiers.Virtual = keywords.Virtual
modifier_keyword modifiers.Override = keywords.Override
modifier_keyword modifiers.Static = keywords.Static

-- "public" | "private" | "protected" | "virtual" | "override" | "static"
abbrev pub node_modifier : Modifier → Node
node_modifier modifier = Made grammar.Modifier (keyword_leaf (modifier_keyword modifier.keyword) modifier.at ▸ End)

-- { Modifier }
abbrev pub node_modifiers : List Modifier → Node
node_modifiers [] = Made grammar.Modifiers End
node_modifiers (modifier ∷ more) = Made grammar.Modifiers (node_modifier modifier ▸ node_modifiers more ▸ End)

-- "int" | "bool" | "string" | Name
abbrev pub node_type : ValueType → Node
node_type (types.Basic basic at) = Made grammar.Value_type (keyword_leaf (basic_keyword basic) at ▸ End)
node_type (types.Class class) = Made grammar.Value_type (name class ▸ End)

-- ValueType Name
abbrev pub node_formal : Formal → Node
node_formal formal = Made grammar.Formal (node_type formal.value_type ▸ name formal.name ▸ End)

-- { "," Formal }
abbrev pub node_more_formals : List Formal → Node
node_more_formals [] = Made grammar.More_formals End
node_more_formals (formal ∷ more) = Made grammar.More_formals (mark_leaf marks.Comma 0 ▸ node_formal formal ▸ node_more_formals more ▸ End)

-- [ Formal { "," Formal } ]
abbrev pub node_formal_list : List Formal → Node
node_formal_list [] = Made grammar.Optional_formals End
node_formal_list (formal ∷ more) = Made grammar.Optional_formals (node_formal formal ▸ node_more_formals more ▸ End)

-- "(" [ Formal { "," Formal } ] ")"
abbrev pub node_formals : FormalsTree → Node
node_formals formals = Made grammar.Formals (mark_leaf marks.OpenParenthesis formals.at ▸ node_formal_list formals.parameters ▸ mark_leaf marks.CloseParenthesis 0 ▸ End)

-- a result that is a word
abbrev pub node_plain : ReturnType → Node
node_plain (results.Async at) = Made grammar.Plain (keyword_leaf keywords.Async at ▸ End)
node_plain (results.Void at) = Made grammar.Plain (keyword_leaf keywords.Void at ▸ End)
node_plain (results.Value (types.Basic basic at)) = Made grammar.Plain (keyword_leaf (basic_keyword basic) at ▸ End)
node_plain (results.Value (types.Class class)) = Made grammar.Plain End

-- Plain | Name
abbrev pub node_result : ReturnType → Node
node_result (results.Value (types.Class class)) = Made grammar.Result (name class ▸ End)
node_result result = Made grammar.Result (node_plain result ▸ End)

-- { Modifier } Result Name Formals
abbrev pub node_header : HeaderTree → Node
node_header header = Made grammar.Header (node_modifiers header.modifiers ▸ node_result header.result_type ▸ name header.name ▸ node_formals header.formals ▸ End)

-- { "&" Header }
abbrev pub node_headers : List HeaderTree → Node
node_headers [] = Made grammar.Headers End
node_headers (header ∷ more) = Made grammar.Headers (mark_leaf marks.Ampersand 0 ▸ node_header header ▸ node_headers more ▸ End)

-- a chord after the modifiers of its first header, by that header's result
abbrev pub node_rest : ReturnType → Name → FormalsTree → List HeaderTree → BlockTree → Node
node_rest (results.Value (types.Class class)) x formals more body = Made grammar.Rest (name class ▸ Made grammar.After (name x ▸ node_formals formals ▸ node_headers more ▸ node_block body ▸ End) ▸ End)
node_rest result x formals more body = Made grammar.Rest (node_plain result ▸ name x ▸ node_formals formals ▸ node_headers more ▸ node_block body ▸ End)

-- a chord: its first header is no Header, since its modifiers stand before Rest
abbrev pub node_chord : List HeaderTree → BlockTree → Node
node_chord [] body = Made grammar.Member (node_block body ▸ End)
node_chord (header ∷ more) body = Made grammar.Member (node_modifiers header.modifiers ▸ node_rest header.result_type header.name header.formals more body ▸ End)

-- { Modifier } Rest
abbrev pub node_member : MemberTree → Node
node_member (ConstructorMember modifiers x formals body) = Made grammar.Member (node_modifiers modifiers ▸ Made grammar.Rest (name x ▸ Made grammar.After (node_formals formals ▸ node_block body ▸ End) ▸ End) ▸ End)
node_member (ChordMember headers body) = node_chord headers body

-- { Member }
abbrev pub node_members : List MemberTree → Node
node_members [] = Made grammar.Members End
node_members (member ∷ more) = Made grammar.Members (node_member member ▸ node_members more ▸ End)

-- [ "public" ]
abbrev pub node_public : Option ℕ → Node
node_public None = Made grammar.Optional_public End
node_public (Some at) = Made grammar.Optional_public (keyword_leaf keywords.Public at ▸ End)

-- [ ":" Name ]
abbrev pub node_base : Option Name → Node
node_base None = Made grammar.Optional_base End
node_base (Some x) = Made grammar.Optional_base (mark_leaf marks.Colon 0 ▸ name x ▸ End)

-- [ "public" ] "class" Name [ ":" Name ] "{" { Member } "}"
abbrev pub node_class : ClassTree → Node
node_class class = Made grammar.Class (node_public class.public_at ▸ keyword_leaf keywords.Class 0 ▸ name class.name ▸ node_base class.base ▸ mark_leaf marks.OpenBrace 0 ▸ node_members class.members ▸ mark_leaf marks.CloseBrace class.end ▸ End)

-- { Class }
abbrev pub node_classes : List ClassTree → Node
node_classes [] = Made grammar.Classes End
node_classes (class ∷ more) = Made grammar.Classes (node_class class ▸ node_classes more ▸ End)

-- { "." Name }
abbrev pub node_name_parts : List NamePart → Node
node_name_parts [] = Made grammar.Name_parts End
node_name_parts (part ∷ more) = Made grammar.Name_parts (mark_leaf marks.Dot part.at ▸ name part.name ▸ node_name_parts more ▸ End)

-- "using" Name { "." Name } ";"
abbrev pub node_using : UsingTree → Node
node_using line = Made grammar.Using (keyword_leaf keywords.Using 0 ▸ name line.first ▸ node_name_parts line.parts ▸ semicolon ▸ End)

-- { Using }
abbrev pub node_usings : List UsingTree → Node
node_usings [] = Made grammar.Usings End
node_usings (line ∷ more) = Made grammar.Usings (node_using line ▸ node_usings more ▸ End)

-- There is a first class, and there are others. The grammar derives no node without it.
abbrev pub node_all_classes : List UsingTree → List ClassTree → Node
node_all_classes usings [] = Made grammar.Whole_program (node_usings usings ▸ End)
node_all_classes usings (class ∷ more) = Made grammar.Whole_program (node_usings usings ▸ node_class class ▸ node_classes more ▸ End)

-- { Using } Class { Class }
abbrev pub node_program : ProgramTree → Node
node_program program = node_all_classes program.usings program.classes
