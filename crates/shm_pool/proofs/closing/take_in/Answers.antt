use Rattle.std.proofs.Common.{◌≡◌, List, rules, [], ◌∷◌, ◌++◌, append_assoc, refl, ap, sym, ◌∙◌, subst}
use Rattle.atomic_table.specs.Table.{Me as Mine}
use Rattle.shm_graph.specs.declared.run.Account.{Account}
use Rattle.shm_pool.specs.{Rules.alone, Tokens.{Its, its, Token, token_of, AllOf, AllStill, accounts_of}}
use Rattle.shm_pool.proofs.{Opening.{enters, glue_as}, Ends.{accounts_append, of_front, of_last}}
use Rattle.shm_pool.proofs.closing.take_in.Goals as goal

pub load_new_seat-requires : goal.load_new_seat-requires
load_new_seat-requires c = (search rules, λ s r _ _. ([], enters c.args.top.now.key s.words s.views r, refl))

pub join_seat-requires : goal.join_seat-requires
join_seat-requires c = let p : Its = its c.args.top.now.table_id c.args.top.now.key in let i = c.loop-token.invariant in
    let of : AllOf p (c.pop.new.self.items ++ c.in-Some.token ∷ []) = subst (AllOf p) c.in-Some.ensures.items i.of in
    let its : c.in-Some.token.of ≡ p = of_last p c.pop.new.self.items c.in-Some.token of in
    let is : token_of c.token.inside.start c.token.inside.place ≡ c.in-Some.token = c.token.view_is in (
      i.same_table,
      ap (λ (t : Token). t.of.table) is ∙ ap (λ (n : Its). n.table) its,
      ap (λ (m : Mine (Unit {0}) (List Account)). m.1) c.token.invariant.0.is_alone,
      c.requires.top,
      glue_as c.args.top.now.key c.loop-token.seat.id c.loop-token.seat.me.0 c.token.inside.place.id c.token.inside.place.me.0,
    )

pub loop-token-preserved : goal.loop-token-preserved
loop-token-preserved c = let p : Its = its c.args.top.now.table_id c.args.top.now.key in let i = c.loop-token.invariant in let front : List Token = c.pop.new.self.items in
    let of : AllOf p (front ++ c.in-Some.token ∷ []) = subst (AllOf p) c.in-Some.ensures.items i.of in
    let is : token_of c.token.inside.start c.token.inside.place ≡ c.in-Some.token = c.token.view_is in
    let v : List Account = c.loop-token.seat.me.0 in
    let me : c.token.inside.place.me ≡ (alone c.token.inside.place ∷ [], []) = c.token.invariant.0.is_alone in
    let new : c.join_seat.new.seat.me.0 ≡ alone c.token.inside.place ∷ v = ap (λ (m : Mine (Unit {0}) (List Account)). m.0) c.join_seat.ensures.2 ∙ (λ j. (me j).0 ++ v) in record {
      same_table = c.join_seat.ensures.0 ∙ i.same_table;
      empty = ap (λ (m : Mine (Unit {0}) (List Account)). m.1) c.join_seat.ensures.2 ∙ i.empty;
      view = i.view ∙ (ap (λ (l : List Token). accounts_of l ++ v) c.in-Some.ensures.items ∙ (ap (λ (l : List Account). l ++ v) (accounts_append front (c.in-Some.token ∷ [])) ∙ (append_assoc (accounts_of front) (c.in-Some.token.account ∷ []) v ∙ (λ j. accounts_of front ++ ((sym is j).account ∷ v)) ∙ (λ j. accounts_of front ++ sym new j))));
      of = of_front p front (c.in-Some.token ∷ []) of;
      still = subst AllStill (sym new) (c.token.invariant.1, i.still);
    }
