-- What is said of members and of the parameters that are declared, from what is said of their parts.
use Rattle.std.proofs.Common.{◌≡◌, ℕ, ◌+◌, ◌*◌, ◌++◌, List, [], ◌∷◌, refl, sym, ap, ◌∙◌, Option, Some, None, length, map, option_map, arith}
use Rattle.std.specs.Prelude.{sum_by}
use Rattle.std.specs.Borrow.{Bor}
use Rattle.chord_tree.specs.declared.names.ValueType.{ValueType}
use Rattle.chord_tree.specs.declared.classes.Formal.{Formal}
use Rattle.chord_tree.specs.Tree.{MemberTree, ClassTree}
use Rattle.chord_tree.specs.Walk.{body_of}
use Rattle.chord_base.specs.declared.static_type.StaticType.{StaticType}
use Rattle.chord_bodies.specs.declared.body.Body.{Body}
use Rattle.chord_bodies.specs.declared.stmt.Stmt.{Stmt}
use Rattle.chord_bodies.specs.BodyView.{view_body}
use Rattle.chord_bodies.specs.View.{view_stmt, stmt_list}
use Rattle.chord_classes.specs.Table.{Shape}
use Rattle.chord_classes.specs.Types.{type_known}
use Rattle.chord_classes.specs.Site as sites
use Rattle.chord_classes.specs.Site.{enter, member_formals, member_due, member_in_main, parameters, block_locals}
use Rattle.chord_classes.specs.ItemRules.{undeclared_member, unreturned}
use Rattle.chord_classes.specs.Resolve.{resolved_member, resolved_block, is_builder}
use Rattle.chord_classes.specs.Least.{keys, least}
use Rattle.chord_types.specs.declared.site.Site.{Site}
use Rattle.chord_types.specs.Sites.{see_site, declares, Declares}
use Rattle.chord_types.specs.StmtChecked.{IsBlockChecked, block_breaks}
use Rattle.chord_types.specs.MemberChecked.{DeclaresAll, IsEntered, IsMemberChecked, formal_statics, declares_all}
use Rattle.chord_types.specs.Flat.{doubled_stmt, doubled_body}
use Rattle.chord_classes.proofs.Leasts.{noted_three, least_append}
use Rattle.chord_types.proofs.Notes.{nothing_before, nothing_after, append_more}
use Rattle.chord_types.proofs.Items.{map_append}

-- Of parameters the first were declared, and what is left gives the whole.
pub record AreDeclared (old now : Site) (all rest : List Formal) : Type 0 where
  pub types : now.types.items ++ formal_statics now.table.now rest ≡ old.types.items ++ formal_statics old.table.now all
  pub site : declares_all (see_site now) rest ≡ declares_all (see_site old) all

-- the place behind two joined lists of parameters is the one behind the second list, from the place behind the first
declares_all_append : (site : sites.Site) (xs ys : List Formal) → declares_all site (xs ++ ys) ≡ declares_all (declares_all site xs) ys
declares_all_append site [] ys = refl
declares_all_append site (x ∷ xs) ys = declares_all_append (declares site x.value_type x.name) xs ys

-- declarations of parameters leave the table of classes as it is
same_table : (site : sites.Site) (xs : List Formal) → (declares_all site xs).table ≡ site.table
same_table site [] = refl
same_table site (x ∷ xs) = same_table (declares site x.value_type x.name) xs

-- some more parameters were declared
pub more_declared : (old now next : Site) (all xs rest : List Formal) → AreDeclared old now all (xs ++ rest) → DeclaresAll now next xs → AreDeclared old next all rest
more_declared old now next all xs rest h k = record {
  types = ap (λ z. next.types.items ++ formal_statics z rest) (ap (λ (s : sites.Site). s.table) k.site ∙ same_table (see_site now) xs) ∙ ap (λ z. z ++ formal_statics now.table.now rest) k.types
      ∙ sym (append_more now.types.items (formal_statics now.table.now xs) (formal_statics now.table.now rest)) ∙ ap (λ z. now.types.items ++ z) (sym (map_append (λ (f : Formal). type_known now.table.now f.value_type) xs rest)) ∙ h.types;
  site = ap (λ z. declares_all z rest) k.site ∙ sym (declares_all_append (see_site now) xs rest) ∙ h.site;
}

-- one parameter was declared
pub one_declared : (old new : Site) (formal : Formal) → Declares old new formal.value_type formal.name → DeclaresAll old new (formal ∷ [])
one_declared old new formal h = record { types = h.types; site = h.site }

-- all parameters were declared
pub all_declared : (old now : Site) (all rest : List Formal) → rest ≡ [] → AreDeclared old now all rest → DeclaresAll old now all
all_declared old now all rest e h = record {
  types = sym (nothing_after now.types.items) ∙ ap (λ z. now.types.items ++ formal_statics now.table.now z) (sym e) ∙ h.types;
  site = ap (declares_all (see_site now)) (sym e) ∙ h.site;
}

-- the place with other variables and another next slot
abbrev with_scope : sites.Site → List sites.Local → ℕ → sites.Site
with_scope site scope next = record { table = site.table; own = site.own; in_main = site.in_main; due = site.due; scope = scope; next = next }

-- the place behind parameters has them at the end of its scope, and its next slot is as many further on
all_parameters : (site : sites.Site) (formals : List Formal) → declares_all site formals ≡ with_scope site (site.scope ++ parameters site.table site.next formals) (site.next + length formals)
all_parameters site [] = ap (λ z. with_scope site z site.next) (sym (nothing_after site.scope)) ∙ ap (with_scope site (site.scope ++ [])) (omega arith)
all_parameters site (formal ∷ more) =
    let next = declares site formal.value_type formal.name in
    all_parameters next more ∙ ap (λ z. with_scope site z (site.next + 1 + length more)) (sym (append_more site.scope (_ ∷ []) (parameters site.table (site.next + 1) more))) ∙ ap (with_scope site (site.scope ++ parameters site.table site.next (formal ∷ more))) (omega arith)

-- where the body of a member begins
pub entered : (table : List Shape) (own : ℕ) (member : MemberTree) (begin new : Site) → DeclaresAll begin new (member_formals member) → begin.table.now ≡ table → begin.own ≡ own → begin.in_main ≡ member_in_main member → (see_site begin).due ≡ member_due member
    → begin.scope ≡ [] → begin.next ≡ 1 → begin.types.items ≡ [] → IsEntered table own member new
entered table own member begin new h htable hown hmain hdue hscope hnext htypes = record {
  types = h.types ∙ ap (λ z. z ++ formal_statics begin.table.now (member_formals member)) htypes ∙ ap (λ z. formal_statics z (member_formals member)) htable;
  site = λ class. h.site ∙ all_parameters (see_site begin) (member_formals member) ∙ rw (htable, hown, hmain, hdue, hscope, hnext) refl;
}

-- to map what an option borrows is to read that first and then to map it
due_twice : (f : ValueType → StaticType) (due : Option (Bor ValueType)) → option_map (λ (written : Bor ValueType). f written.now) due ≡ option_map f (option_map (λ (written : Bor ValueType). written.now) due)
due_twice f None = refl
due_twice f (Some written) = refl

-- a member was looked at
pub member_checked : (table : List Shape) (own : ℕ) (member : MemberTree) (first begin last : Site) (old mid late new : Option ℕ) (stmts : List Stmt) (due : Option StaticType) (body : Body)
    → IsEntered table own member first → see_site begin ≡ see_site first → begin.types.items ≡ [] → IsBlockChecked begin last (body_of member) old mid stmts
    → late ≡ least mid (keys 2 (undeclared_member table member)) → new ≡ least late (keys 17 (unreturned member))
    → due ≡ option_map (λ (written : Bor ValueType). type_known table written.now) last.due
    → view_body body ≡ record { class = own; is_main = last.in_main; is_constructor = is_builder member; parameters = first.types.items; locals = last.types.items; result = due; stmts = stmt_list (map view_stmt stmts) }
    → doubled_body body ≡ sum_by doubled_stmt stmts → IsMemberChecked table own member old new body
member_checked table own member first begin last old mid late new stmts due body e hb ht h hl hn hd hv hf = record {
  built = λ class n. hv ∙ body_is class (nothing_before mid late (keys 2 (undeclared_member table member)) hl (nothing_before late new (keys 17 (unreturned member)) hn n));
  noted = λ class. noted_three old mid late new (block_breaks (enter table own class member) (body_of member)) (keys 2 (undeclared_member table member)) (keys 17 (unreturned member)) (h.noted ∙ ap (λ z. least old (block_breaks z (body_of member))) (site_is class)) hl hn;
  flat = hf ∙ h.flat;
}
  where
    site_is : (class : ClassTree) → see_site begin ≡ enter table own class member
    site_is class = hb ∙ e.site class

    body_is : (class : ClassTree) → mid ≡ None → record { class = own; is_main = last.in_main; is_constructor = is_builder member; parameters = first.types.items; locals = last.types.items; result = due; stmts = stmt_list (map view_stmt stmts) } ≡ resolved_member table own class member
    body_is class n =
        let s = site_is class in
        let table_is : begin.table.now ≡ table = ap (λ (z : sites.Site). z.table) s in
        let main_is : last.in_main ≡ member_in_main member = ap (λ (z : sites.Site). z.in_main) h.site ∙ ap (λ (z : sites.Site). z.in_main) s in
        let due_is : due ≡ option_map (type_known table) (member_due member) = hd ∙ due_twice (type_known table) last.due ∙ ap (option_map (type_known table)) (ap (λ (z : sites.Site). z.due) h.site ∙ ap (λ (z : sites.Site). z.due) s) in
        let locals_are : last.types.items ≡ map (type_known table) (block_locals (body_of member)) = h.types ∙ ap (λ z. z ++ map (type_known begin.table.now) (block_locals (body_of member))) ht ∙ ap (λ z. map (type_known z) (block_locals (body_of member))) table_is in
        let stmts_are : stmt_list (map view_stmt stmts) ≡ resolved_block (enter table own class member) (body_of member) = h.built n ∙ ap (λ z. resolved_block z (body_of member)) s in
        rw (main_is, e.types, locals_are, due_is, stmts_are) refl

-- the slots of a member fit
pub slots_fit : (table : List Shape) (own : ℕ) (member : MemberTree) (first begin last : Site) (old mid : Option ℕ) (stmts : List Stmt) → IsEntered table own member first → see_site begin ≡ see_site first → begin.types.items ≡ [] → IsBlockChecked begin last (body_of member) old mid stmts
    → last.next ≡ 1 + length first.types.items + length last.types.items
slots_fit table own member first begin last old mid stmts e hb ht h =
    let n = ap (λ (z : sites.Site). z.next) h.site in
    let m = ap (λ (z : sites.Site). z.next) (hb ∙ e.site no_class) in
    let p = ap length e.types ∙ map_length (λ (f : Formal). type_known table f.value_type) (member_formals member) in
    let l = ap length (h.types ∙ ap (λ z. z ++ map (type_known begin.table.now) (block_locals (body_of member))) ht) ∙ map_length (type_known begin.table.now) (block_locals (body_of member)) in
    omega arith
  where
    no_class : ClassTree
    no_class = record { public_at = None; name = record { text = []; at = 0 }; base = None; members = []; end = 0 }

    map_length : {A B : Type 0} (f : A → B) (xs : List A) → length (map f xs) ≡ length xs
    map_length f [] = refl
    map_length f (x ∷ xs) = let r = map_length f xs in omega arith

-- the keys of two joined lists of tokens are the keys of the first and then those of the second
keys_append : (rule : ℕ) (xs ys : List ℕ) → keys rule (xs ++ ys) ≡ keys rule xs ++ keys rule ys
keys_append rule [] ys = refl
keys_append rule (x ∷ xs) ys = ap (λ z. (32 * x + rule) ∷ z) (keys_append rule xs ys)

-- tokens of one rule were noted, and those behind them are left
pub noted_more : (rule : ℕ) (o p : Option ℕ) (xs ys : List ℕ) → p ≡ least o (keys rule xs) → least p (keys rule ys) ≡ least o (keys rule (xs ++ ys))
noted_more rule o p xs ys h = ap (λ z. least z (keys rule ys)) h ∙ sym (least_append o (keys rule xs) (keys rule ys)) ∙ ap (least o) (sym (keys_append rule xs ys))
