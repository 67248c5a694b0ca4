-- blocks that a memo has in reach: by its home, by a root, by a look
use Rattle.std.proofs.Common.{◌≡◌, ◌≢◌, ℕ, zero, suc, ◌<◌, sym, ap, ◌∙◌, arith, true, not, eqb, inl, inr, [], ◌∷◌, ◌++◌, map}
use Rattle.std.proofs.lemmas.Bool.{cases_eq, ne_eqb, eqb-true}
use Rattle.std.proofs.lemmas.List.Elements.{Contains-append_left, Contains-append_right}
use Rattle.std.proofs.lemmas.Map.Views.{list_any-from_Contains, Contains-from_any}
use Rattle.std.specs.{Cmp.nat_eq_equiv, List.{Contains, list_any}}
use Rattle.shm_graph.specs.declared.{spot.Spot.TheVariants.{Home, Root}, memo.{Look.Look, Memo.Memo, Op.Op}}
use Rattle.shm_graph.specs.{declared.memo.Op.TheVariants.Nothing, Ops.{cover, cover_of}}
use Rattle.shm_graph.specs.Reach.{shown, roots_below, in_slots, not_zero, named_blocks, reached_blocks, is_reached}
use Rattle.shm_graph.specs.Views.{own_word}
use Rattle.kind_laws.proofs.Lists.{Contains-filter}

module _ (c : ℕ) (m : Memo) (b : ℕ) where
  -- a block that is listed
  listed : Contains (reached_blocks c m) b → is_reached c m b ≡ true
  listed h = list_any-from_Contains nat_eq_equiv b (reached_blocks c m) h

  -- a look's block
  pub look_reached : list_any (eqb b) (map (λ (k : Look). k.block) m.looks) ≡ true → is_reached c m b ≡ true
  look_reached h = listed (Contains-append_right (named_blocks c m) (map (λ (k : Look). k.block) m.looks) b (Contains-from_any eqb-true b (map (λ (k : Look). k.block) m.looks) h))

  -- a block that is named
  named : b ≢ 0 → Contains (roots_below c m 16 ++ shown m (Home c) ∷ in_slots m.known) b → is_reached c m b ≡ true
  named some h =
      listed
      (Contains-append_left (named_blocks c m) (map (λ (k : Look). k.block) m.looks) b
      (Contains-filter not_zero (roots_below c m 16 ++ shown m (Home c) ∷ in_slots m.known) b h (ap not (ne_eqb b 0 some))))

  -- that of the own home, while no step is in progress
  pub home_reached : m.op ≡ Nothing → own_word m.own (Home c) ≡ b → b ≢ 0 → is_reached c m b ≡ true
  home_reached idle is some =
      named some
      (Contains-append_right (roots_below c m 16) (shown m (Home c) ∷ in_slots m.known) b
      (0, omega arith, ap (λ (o : Op). cover (cover_of o) (Home c) (own_word m.own (Home c))) idle ∙ is))

  -- and that of an own root
  in_roots : (k n : ℕ) → k < n → shown m (Root c k) ≡ b → Contains (roots_below c m n) b
  in_roots k zero l is = absurd (omega arith)
  in_roots k (suc n) l is =
      elim (cases_eq k n) [
        | inl e ↦ (0, omega arith, ap (λ i. shown m (Root c i)) (sym e) ∙ is)
        | inr o ↦ Contains-append_right (shown m (Root c n) ∷ []) (roots_below c m n) b (in_roots k n (omega arith) is)
      ]

  pub root_reached : (k : ℕ) → k < 16 → m.op ≡ Nothing → own_word m.own (Root c k) ≡ b → b ≢ 0 → is_reached c m b ≡ true
  root_reached k l idle is some =
      named some
      (Contains-append_left (roots_below c m 16) (shown m (Home c) ∷ in_slots m.known) b
      (in_roots k 16 l (ap (λ (o : Op). cover (cover_of o) (Root c k) (own_word m.own (Root c k))) idle ∙ is)))
