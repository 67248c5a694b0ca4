-- what is owed of what a root names
use Rattle.std.proofs.Common.{◌≡◌, ℕ, ◌%◌, ◌<◌, refl, sym, ap, ◌∙◌, arith, true, List, [], ◌∷◌, ◌++◌, inl, inr}
use Rattle.std.proofs.lemmas.Bool.{cases_eq}
use Rattle.shm_words.proofs.Placing.{total_small}
use Rattle.shm_words.specs.Layout.{address_limit}
use Rattle.shm_graph.specs.{declared.{memo.Memo.Memo, spot.Spot.TheVariants.Root}, Asks.{Trail, pair}, Events.Event}
use Rattle.shm_graph.specs.Core.{core}
use Rattle.kind_parts.specs.WordParts.{OwnLoaded}
use Rattle.plans.specs.{Parts.IsHeld, Plans.{PlanLaws, Follows}, Words.{word_control, word_part_laws}}
use Rattle.shm_count.specs.Roots.{root_word}
use Rattle.shm_ref.specs.{declared.root_of.NamingState.NamingState, Proved.AskedParts.{asked_part_laws, one_pair}}
use Rattle.shm_ref.specs.Proved.RootParts.{load_needs, root_names}
use Rattle.shm_ref.specs.{RootOf.{IsNaming, naming_ask, naming_plan, naming_steered}, RootParts.load_part}

-- what a root holds in a held state with no step in progress has 24 bits
small_at : (m : NamingState) (r0 r : Memo) → IsNaming m.me m.root r0 r0 [] [] → core r ≡ core r0 → IsHeld m.me r → root_word m.me.who r m.root < address_limit
small_at m r0 r h cored held = elim (cases_eq (root_word m.me.who r m.root) 0) [
  | inl e ↦ omega arith
  | inr some ↦ (
      let y = root_names m.me m.root h.may.who h.low r held (ap (λ (x : Memo). x.op) cored ∙ h.may.idle) some in
      let total = total_small m.me.geometry h.may.geometry in
      let room = y.1 in
      omega arith
      )
]

pub naming_laws : PlanLaws word_control naming_plan
naming_laws =
    record {
      stays = λ m n. record { same_me = refl; same_line = refl; same_start = refl; started = λ e. absurd (cc) };
      calls = λ m. record { me = refl; asks = refl };
      parts = λ m. asked_part_laws true word_control (load_part m.me m.root true) (word_part_laws true m.me (naming_ask m.me m.root) (OwnLoaded (Root m.me.who m.root)));
      opens = λ m r0 r tr es h. load_needs m.me m.root h.may.who h.low true r;
      leads = λ m r0 rs r tr t es ds n h w held same. leads m r0 rs r tr t es ds n h w held;
    }
  where
    -- the word that was found is what the root names
    leads : (m : NamingState) (r0 rs r : Memo) (tr t : Trail) (es ds : List Event) (n : ℕ) → IsNaming m.me m.root r0 rs tr es → (naming_plan.part m).leaves (naming_steered.call m) rs r t ds n → IsHeld m.me r → Follows word_control naming_plan m n r0 r (tr ++ t) (es ++ ds)
    leads m r0 rs r tr t es ds n h w held =
        let cored : core r ≡ core r0 = w.0.found.left ∙ ap core h.same in
        let names : n ≡ root_word m.me.who r0 m.root = w.0.found.found ∙ ap (λ (x : Memo). root_word m.me.who x m.root) h.same in
        let here : n ≡ root_word m.me.who r m.root = names ∙ sym (ap (λ (x : Memo). root_word m.me.who x m.root) cored) in
        let low = small_at m r0 r (record { may = h.may; low = h.low; same = refl; none = refl; quiet = refl }) cored held in
        let small : n % address_limit ≡ n = omega arith in
        record {
          memo = cored;
          names = small ∙ names;
          none = ap (λ (x : List Event). x ++ ds) h.quiet ∙ w.0.none;
          trail = ap (λ (x : Trail). x ++ t) h.none ∙ (one_pair (naming_ask m.me m.root) t n w.1 ∙ ap (λ (x : ℕ). pair (naming_ask m.me m.root) x ∷ []) (sym small));
        }
