-- The code of a call that is lent a struct and hands its fields on, for any list of kinds of fields (`LentFields`): `hands_on`, and the law `runs_on`,
-- which is the walk of that code, done once by recursion over the kinds. What the caller of such a function has is handed to the function that it calls,
-- and what that one leaves is what the function leaves.
-- In order: the code; two laws of numbers; the locals, as lists; what is owned of them; a local that is read; the steps of the walk, field by field; the
-- call and the return; and the law. Not here: contracts (`LentCall`).
-- The laws take `Logic`, and `runs_on` that the table of calls is monotone under a frame. The rest assumes nothing.
use Prim.Native.Nat.{◌+◌, ℕ, suc, zero}
use mathlib.Core.List.{List, [], ◌∷◌}
use mathlib.Core.Option.{some}
use mathlib.Core.Path.{◌≡◌, ◌∙◌, ap, refl, subst, sym}
use lib.Dec.{T}
use lib.ListN.{get_or, length}
use base.Fraction.{full_share}
use seplogic.Ra.Ura.{Ura}
use mir.Fields.{get_v, set_v}
use mir.Syntax.{Body, Callee as Name, Fn, Lifetime, Local, Opd as Operand, Sym, Ty, Tys, addr_of, aggregate, assign, call, copy, deref, erased, field, imm, local, mut, named, place, return, rv_opd, seq, ty_int, ty_ref, ty_struct, value_local, w64}
use mir.Val.{Val, Vals, WT, WTs, has_ty, of_list, vint, vptr, vstruct}
use mir.ValLaws.{eq_w_refl}
use base.Fml.{fat, fdies, froom}
use base.Logic.{SProp, all, all_e, apply∗, assoc', emp, ent, guard, id⊢, sep, wand}
use prog.Memory.{align, field_at, size, up}
use prog.Wp.{Calls, Env, Loops, WpFn, no_local, release}
use types.Logic.{Logic}
use types.Kit.{ !, Go, Goal, Item, Post, Seq, Step, ◌$◌, ◌∵◌, ◌⊛◌, allocs, assume, at_ret, await, by, check, done, drop, each, frame, given, join, keep, later, learn, mean, move, qed, raw, runs, split, use0, use1, use2, use3, ‵}
use types.Part.{Part, agg, look_in, sub, whole}
use types.Run.{Opd, Opds, Rv, Writes, addr, alloc0, alloc1, and_then, assigns, enter, fld, forget, free1, from, hop, init, land, load, look, no_more, of_opd, params1, pass0, pass1, returns, stop}
use sound.WpLaws.{FmC}
use contract.Lifetimes.{Lfts}
use denote.RattleType.{Denots, mirs}
use denote.Slice.{slice_ty, slice_val}
use denote.Struct.Struct.{to_tys}
use denote.Triple.Call.{calls_from}
use Rattle.call_exports.proofs.LentFields.{FieldKind, number, read, rows, vals, written}

-- ---- the code: each field of the struct, which is local 1, into a local of its own; a table that may be written by its pointer, and then with its length
abbrev locals_of : List FieldKind → List Local
locals_of [] = []
locals_of (number w ∷ ks) = local (ty_int w) value_local ∷ locals_of ks
locals_of (read w ∷ ks) = local (slice_ty (ty_ref erased imm (ty_int w))) value_local ∷ locals_of ks
locals_of (written w ∷ ks) = local (ty_ref erased mut (ty_int w)) value_local ∷ local (slice_ty (ty_ref erased mut (ty_int w))) value_local ∷ locals_of ks

abbrev copies : ℕ → ℕ → Body
copies k l = assign (place l []) (rv_opd (copy (place 1 (field k ∷ []))))

-- the fields from k on, into the locals from l on
abbrev takes : ℕ → ℕ → List FieldKind → Body → Body
takes k l [] after = after
takes k l (number w ∷ ks) after = seq (copies k l) (takes (suc k) (suc l) ks after)
takes k l (read w ∷ ks) after = seq (copies k l) (takes (suc k) (suc l) ks after)
takes k l (written w ∷ ks) after =
    seq (assign (place l []) (addr_of (place 1 (field k ∷ field 0 ∷ deref (ty_int w) ∷ []))))
    (seq (assign (place (suc l) []) (aggregate (copy (place l []) ∷ copy (place 1 (field k ∷ field 1 ∷ [])) ∷ [])))
    (takes (suc k) (suc (suc l)) ks after))

abbrev handed : ℕ → List FieldKind → List Operand
handed l [] = []
handed l (number w ∷ ks) = copy (place l []) ∷ handed (suc l) ks
handed l (read w ∷ ks) = copy (place l []) ∷ handed (suc l) ks
handed l (written w ∷ ks) = copy (place (suc l) []) ∷ handed (suc (suc l)) ks

-- from a struct of the type S to a reply of the type R, by the function f
abbrev pub hands_on : Ty → Ty → Name → List FieldKind → Fn
hands_on R S f ks = record {
  lifetimes = 1;
  outlives = [];
  ty_params = [];
  givens = 0;
  params = 1;
  locals = local R value_local ∷ local S value_local ∷ locals_of ks;
  body = takes 0 2 ks (seq (call f (handed 2 ks) (place 0 [])) return);
}

-- ---- the field j after field k, so that the next field of the list after k + 1 is by computation the next but one after k
infixl 60 ◌⊕◌
abbrev ◌⊕◌ : ℕ → ℕ → ℕ
k ⊕ zero = k
k ⊕ (suc j) = suc k ⊕ j

suc-⊕ : (k j : ℕ) → suc k ⊕ j ≡ suc (k ⊕ j)
suc-⊕ k zero = refl
suc-⊕ k (suc j) = suc-⊕ (suc k) j

zero-⊕ : (j : ℕ) → zero ⊕ j ≡ j
zero-⊕ zero = refl
zero-⊕ (suc j) = suc-⊕ zero j ∙ ap suc (zero-⊕ j)

-- ---- the fields' locals: those that are done, with their values, the last one first, and then those that are left. A local is its type and its block.
-- Together they are the same list whether the next local is done or not, by computation.
abbrev Cells : Type 0
Cells = List ((Ty × ℕ) × Val)

abbrev env_of : Cells → List (Ty × ℕ) → List (Ty × ℕ)
env_of [] X = X
env_of (c ∷ δ) X = env_of δ (c.0 ∷ X)

-- the next one stands at the number of those that are done
abbrev shift : Cells → ℕ → ℕ
shift [] n = n
shift (c ∷ δ) n = shift δ (suc n)

shift_suc : (δ : Cells) (n : ℕ) → shift δ (suc n) ≡ suc (shift δ n)
shift_suc [] n = refl
shift_suc (c ∷ δ) n = shift_suc δ (suc n)

shift_zero : (δ : Cells) → shift δ zero ≡ length δ
shift_zero [] = refl
shift_zero (c ∷ δ) = shift_suc δ zero ∙ ap suc (shift_zero δ)

behind : (δ : Cells) (X : List (Ty × ℕ)) (n : ℕ) (d : Ty × ℕ) → get_or (env_of δ X) (shift δ n) d ≡ get_or X n d
behind [] X n d = refl
behind (c ∷ δ) X n d = behind δ (c.0 ∷ X) (suc n) d

here : (δ : Cells) (e : Ty × ℕ) (X : List (Ty × ℕ)) (d : Ty × ℕ) → get_or (env_of δ (e ∷ X)) (length δ) d ≡ e
here δ e X d = ap (λ (n : ℕ). get_or (env_of δ (e ∷ X)) n d) (sym (shift_zero δ)) ∙ behind δ (e ∷ X) zero d

-- the blocks that a list of kinds is given
abbrev Blocks : List FieldKind → Type 0
Blocks [] = Unit {0}
Blocks (number w ∷ ks) = ℕ × Blocks ks
Blocks (read w ∷ ks) = ℕ × Blocks ks
Blocks (written w ∷ ks) = ℕ × (ℕ × Blocks ks)

abbrev env_for : (ks : List FieldKind) → Blocks ks → List (Ty × ℕ)
env_for [] bs = []
env_for (number w ∷ ks) bs = (ty_int w, bs.0) ∷ env_for ks bs.1
env_for (read w ∷ ks) bs = (slice_ty (ty_ref erased imm (ty_int w)), bs.0) ∷ env_for ks bs.1
env_for (written w ∷ ks) bs = (ty_ref erased mut (ty_int w), bs.0) ∷ (slice_ty (ty_ref erased mut (ty_int w)), bs.1.0) ∷ env_for ks bs.1.1

module _ {M : Type 1} {𝓤 : Ura M} (𝓛 : Logic 𝓤) where
  -- ---- what is owned: of a local that is done its value, of one that is left room, and of each that it may be freed
  open 𝓛 use {H}

  abbrev At : Ty × ℕ → Val → SProp 𝓤
  At e v = H.at full_share e.0 e.1 zero v

  abbrev Dies : Ty × ℕ → SProp 𝓤
  Dies e = H.dies e.0 e.1

  abbrev Done : Cells → SProp 𝓤
  Done [] = emp 𝓤
  Done (c ∷ δ) = sep 𝓤 (sep 𝓤 (At c.0 c.1) (Dies c.0)) (Done δ)

  abbrev Todo : List (Ty × ℕ) → SProp 𝓤
  Todo [] = emp 𝓤
  Todo (e ∷ X) = sep 𝓤 (sep 𝓤 (H.room e.0 e.1 zero) (Dies e)) (Todo X)

  allocated_one : (τ : Ty) (b : ℕ) (X : List (Ty × ℕ)) {Γ : List (Item 𝓤)} {G : Goal 𝓤 H}
      → Step (Go {0}) 𝓛 (raw (Todo ((τ, b) ∷ X)) ∷ Γ) G (raw (Todo X) ∷ ‵ (froom τ b zero) ∷ ‵ (fdies τ b) ∷ Γ) G
  allocated_one τ b X = use3 𝓛 (raw (Todo ((τ, b) ∷ X))) (qed 𝓛 (raw (Todo X) ∷ ‵ (froom τ b zero) ∷ ‵ (fdies τ b) ∷ []) ∵ move ! (1 ∷ 2 ∷ []) $ join ! $ done !)

  allocated : (ks : List FieldKind) {Γ : List (Item 𝓤)} (Kt : Env 𝓤 H → Goal 𝓤 H)
      → ((bs : Blocks ks) → Seq (Go {0}) 𝓛 (raw (Todo (env_for ks bs)) ∷ Γ) (Kt (env_for ks bs))) → Seq (Go {0}) 𝓛 Γ (allocs (locals_of ks) Kt)
  allocated [] Kt k = alloc0 ! $ use0 𝓛 (raw (emp 𝓤)) (id⊢ 𝓤 (emp 𝓤)) $ k tt
  allocated (number w ∷ ks) Kt k = alloc1 ! (λ b. allocated ks (λ E. Kt ((ty_int w, b) ∷ E)) (λ bs. allocated_one (ty_int w) b (env_for ks bs) $ k (b, bs)))
  allocated (read w ∷ ks) Kt k =
      let τ : Ty = slice_ty (ty_ref erased imm (ty_int w)) in
      alloc1 ! (λ b. allocated ks (λ E. Kt ((τ, b) ∷ E)) (λ bs. allocated_one τ b (env_for ks bs) $ k (b, bs)))
  allocated (written w ∷ ks) Kt k =
      let τ : Ty = ty_ref erased mut (ty_int w) in
      let ρ : Ty = slice_ty τ in
      alloc1 ! (λ b. alloc1 ! (λ c. allocated ks (λ E. Kt ((τ, b) ∷ (ρ, c) ∷ E)) (λ bs.
      allocated_one ρ c (env_for ks bs) $ allocated_one τ b ((ρ, c) ∷ env_for ks bs) $ k (b, (c, bs)))))

  freed : (δ : Cells) (X : List (Ty × ℕ)) (P : SProp 𝓤) → ent 𝓤 (sep 𝓤 (Done δ) (release 𝓤 H X P)) (release 𝓤 H (env_of δ X) P)
  freed [] X P = qed 𝓛 (raw (emp 𝓤) ∷ raw (release 𝓤 H X P) ∷ []) ∵ drop ! $ done !
  freed (c ∷ δ) X P =
      qed 𝓛 (((‵ (fat full_share c.0.0 c.0.1 zero c.1) ⊛ ‵ (fdies c.0.0 c.0.1)) ⊛ raw (Done δ)) ∷ raw (release 𝓤 H X P) ∷ []) ∵
      split ! $ split ! $ forget ! 0 refl $ join ! $ move ! (1 ∷ 0 ∷ []) $ by ! (freed δ (c.0 ∷ X) P)

  -- ---- a local that is done is read: it can be taken out of those that are, and put back
  abbrev HoldsAt : Ty × ℕ → Cells → Val → Type 2
  HoldsAt e δ v = (back : Val → Item 𝓤) × Part (Go {0}) 𝓛 (raw (Done δ)) full_share e.0 e.1 zero v back

  newest : (e : Ty × ℕ) (v : Val) (δ : Cells) → HoldsAt e ((e, v) ∷ δ) v
  newest e v δ = (
    (λ u. raw (Done ((e, u) ∷ δ))),
    record {
      out = qed 𝓛 (((‵ (fat full_share e.0 e.1 zero v) ⊛ ‵ (fdies e.0 e.1)) ⊛ raw (Done δ)) ∷ []) ∵ split ! $ split ! $ frame ! $
          each ! (λ (u : Val). wand 𝓤 (At e u) (Done ((e, u) ∷ δ))) (λ u. assume ! (‵ (fat full_share e.0 e.1 zero u)) $ join ! $ done !);
      same = refl;
    },
  )

  older : (e : Ty × ℕ) (v : Val) (δ : Cells) (c : (Ty × ℕ) × Val) → HoldsAt e δ v → HoldsAt e (c ∷ δ) v
  older e v δ c h =
      let D : SProp 𝓤 = sep 𝓤 (At c.0 c.1) (Dies c.0) in
      let back : Val → Item 𝓤 = h.0 in
      let Way : Val → SProp 𝓤 = λ u. wand 𝓤 (At e u) (mean 𝓛 (back u)) in (
        (λ u. raw (sep 𝓤 D (mean 𝓛 (back u)))),
        record {
          out = qed 𝓛 (raw D ∷ raw (Done δ) ∷ []) ∵ move ! (1 ∷ []) $ use1 𝓛 (‵ (fat full_share e.0 e.1 zero v) ⊛ raw (all 𝓤 Way)) h.1.out $ split ! $ frame ! $
              each ! (λ (u : Val). wand 𝓤 (At e u) (sep 𝓤 D (mean 𝓛 (back u)))) (λ u. assume ! (‵ (fat full_share e.0 e.1 zero u)) $
              -- [the local with u; the ways back; the other local]
              move ! (1 ∷ []) $ use1 𝓛 (raw (Way u)) (all_e 𝓤 Way u) $ move ! (1 ∷ 0 ∷ []) $ use2 𝓛 (back u) (apply∗ 𝓤 (At e u) (mean 𝓛 (back u))) $ move ! (1 ∷ 0 ∷ []) $ done !);
          same = ap (λ (i : Item 𝓤). raw (sep 𝓤 D (mean 𝓛 i))) h.1.same;
        },
      )

  -- ---- the steps of the walk, at a struct of the types τs and the values vs. P is what the function that is called will be handed.
  module _ (C : Calls 𝓤 H) (Λ : Loops 𝓤 H) (R : Ty) (ν : Sym) (τs : Tys) (vs : Vals) (b₀ b₁ : ℕ) (E' : List (Ty × ℕ)) (P : SProp 𝓤) where
    abbrev E : Env 𝓤 H
    E = (R, b₀) ∷ (ty_struct ν τs, b₁) ∷ E'

    abbrev struct : Item 𝓤
    struct = ‵ (fat full_share (ty_struct ν τs) b₁ zero (vstruct vs))

    abbrev rest : List (Item 𝓤)
    rest = ‵ (froom R b₀ zero) ∷ ‵ (fdies R b₀) ∷ ‵ (fdies (ty_struct ν τs) b₁) ∷ []

    abbrev Γ : Cells → List (Ty × ℕ) → List (Item 𝓤)
    Γ δ X = struct ∷ raw (Done δ) ∷ raw (Todo X) ∷ raw P ∷ rest

    -- the same as the call has it, with what it hands over in front
    abbrev Γ' : Cells → List (Item 𝓤)
    Γ' δ = raw P ∷ struct ∷ raw (Done δ) ∷ raw (Todo []) ∷ rest

    -- the next local is stored
    fills : (δ : Cells) (e : Ty × ℕ) (X : List (Ty × ℕ)) (v : Val) → T (has_ty e.0 v) × WT v → Writes (Go {0}) 𝓛 (Γ δ (e ∷ X)) e.0 e.1 zero v (Γ ((e, v) ∷ δ) X)
    fills δ e X v wt = record {
      go = λ Q h. qed 𝓛 (Γ δ (e ∷ X)) ∵ check ! wt $ move ! (2 ∷ []) $
          use1 𝓛 ((‵ (froom e.0 e.1 zero) ⊛ ‵ (fdies e.0 e.1)) ⊛ raw (Todo X)) (id⊢ 𝓤 (Todo (e ∷ X))) $ split ! $ split ! $ frame ! $
          assume ! (‵ (fat full_share e.0 e.1 zero v)) $ move ! (0 ∷ 1 ∷ 4 ∷ []) $
          use3 𝓛 (raw (Done ((e, v) ∷ δ))) (assoc' 𝓤 (At e v) (Dies e) (Done δ)) $ move ! (2 ∷ 0 ∷ 1 ∷ []) $ by ! h;
    }

    spot : (δ : Cells) (e : Ty × ℕ) (X : List (Ty × ℕ)) → env_of δ (e ∷ X) ≡ E' → get_or E' (length δ) (no_local 𝓤 H) ≡ e
    spot δ e X at = subst (λ (F : List (Ty × ℕ)). get_or F (length δ) (no_local 𝓤 H) ≡ e) at (here δ e X (no_local 𝓤 H))

    stored : (δ : Cells) (e : Ty × ℕ) (X : List (Ty × ℕ)) (v : Val) → env_of δ (e ∷ X) ≡ E' → T (has_ty e.0 v) × WT v
        → Writes (Go {0}) 𝓛 (Γ δ (e ∷ X)) (get_or E' (length δ) (no_local 𝓤 H)).0 (get_or E' (length δ) (no_local 𝓤 H)).1 zero v (Γ ((e, v) ∷ δ) X)
    stored δ e X v at wt = subst (λ (x : Ty × ℕ). Writes (Go {0}) 𝓛 (Γ δ (e ∷ X)) x.0 x.1 zero v (Γ ((e, v) ∷ δ) X)) (sym (spot δ e X at)) (fills δ e X v wt)

    -- local l of the fields' holds v
    abbrev Holds : Cells → ℕ → Val → Type 2
    Holds δ l v = HoldsAt (get_or E' l (no_local 𝓤 H)) δ v

    holds : (δ : Cells) (e : Ty × ℕ) (X : List (Ty × ℕ)) (v : Val) → env_of δ (e ∷ X) ≡ E' → Holds ((e, v) ∷ δ) (length δ) v
    holds δ e X v at = subst (λ (x : Ty × ℕ). HoldsAt x ((e, v) ∷ δ) v) (sym (spot δ e X at)) (newest e v δ)

    -- a field that is read as a whole
    module _ (δ : Cells) (k : ℕ) (τ : Ty) (d : ℕ) (v : Val) (lies : field_at zero τs k ≡ some (τ, d)) (is : get_v vs k ≡ v) where
      whole_field : (X : List (Ty × ℕ)) → Opd (Go {0}) 𝓛 (Γ δ X) E (copy (place 1 (field k ∷ []))) v
      whole_field X =
          let r : Opd (Go {0}) 𝓛 (Γ δ X) E (copy (place 1 (field k ∷ []))) (get_v vs k) = load ! (from ! (fld ! lies (stop !))) (look_in ! 0 (sub ! k lies (whole !))) in
          subst (λ (u : Val). Opd (Go {0}) 𝓛 (Γ δ X) E (copy (place 1 (field k ∷ []))) u) is r

      copied : {q : Post 𝓤 H} (e : Ty × ℕ) (X : List (Ty × ℕ)) → env_of δ (e ∷ X) ≡ E' → T (has_ty e.0 v) × WT v → (after : Body)
          → Seq (Go {0}) 𝓛 (Γ ((e, v) ∷ δ) X) (runs C Λ E after q) → Seq (Go {0}) 𝓛 (Γ δ (e ∷ X)) (runs C Λ E (seq (copies k (suc (suc (length δ)))) after) q)
      copied e X at wt after s = assigns ! (of_opd ! (whole_field (e ∷ X))) (from ! (stop !)) (stored δ e X v at wt) $ s

    -- a slice that may be written: its pointer, and its length
    module _ (δ : Cells) (X : List (Ty × ℕ)) (k : ℕ) (ℓ : Lifetime) (ρ : Ty) (d b o n : ℕ) (lies : field_at zero τs k ≡ some (slice_ty (ty_ref ℓ mut ρ), d))
        (is : get_v vs k ≡ slice_val (b, o) n) where
      slice_part : Part (Go {0}) 𝓛 struct full_share (slice_ty (ty_ref ℓ mut ρ)) b₁ (zero + d) (slice_val (b, o) n) (λ u. ‵ (fat full_share (ty_struct ν τs) b₁ zero (vstruct (set_v vs k u))))
      slice_part =
          let back : Val → Item 𝓤 = λ u. ‵ (fat full_share (ty_struct ν τs) b₁ zero (vstruct (set_v vs k u))) in
          let p : Part (Go {0}) 𝓛 struct full_share (slice_ty (ty_ref ℓ mut ρ)) b₁ (zero + d) (get_v vs k) back = sub ! k lies (whole !) in
          subst (λ (v : Val). Part (Go {0}) 𝓛 struct full_share (slice_ty (ty_ref ℓ mut ρ)) b₁ (zero + d) v back) is p

      address : Rv (Go {0}) 𝓛 (Γ δ X) E (addr_of (place 1 (field k ∷ field 0 ∷ deref ρ ∷ []))) (vptr b o)
      address = addr ! (from ! (fld ! lies (fld ! refl (hop ! (look_in ! 0 (sub ! 0 refl slice_part)) (stop !)))))

      count : Opd (Go {0}) 𝓛 (Γ δ X) E (copy (place 1 (field k ∷ field 1 ∷ []))) (vint w64 n)
      count = load ! (from ! (fld ! lies (fld ! refl (stop !)))) (look_in ! 0 (sub ! 1 refl slice_part))

    -- ---- what is left to do once all fields are taken, where those of δ are: it runs wherever the operands xs read us
    abbrev Then : Cells → List Operand → List Val → Body → Post 𝓤 H → Type 2
    Then δ xs us after q =
        (δ' : Cells) → env_of δ' [] ≡ E' → ((l : ℕ) (v : Val) → Holds δ l v → Holds δ' l v) → Opds (Go {0}) 𝓛 (Γ' δ') E xs us → Seq (Go {0}) 𝓛 (Γ δ' []) (runs C Λ E after q)

    widened : (δ : Cells) (c : (Ty × ℕ) × Val) {xs : List Operand} {us : List Val} {after : Body} {q : Post 𝓤 H} → Then δ xs us after q → Then (c ∷ δ) xs us after q
    widened δ c go δ' at grows os = go δ' at (λ l v h. grows l v (older (get_or E' l (no_local 𝓤 H)) v δ c h)) os

    operand : (δ : Cells) (e : Ty × ℕ) (X : List (Ty × ℕ)) (v : Val) → env_of δ (e ∷ X) ≡ E' → {xs : List Operand} {us : List Val} {after : Body} {q : Post 𝓤 H}
        → Then δ (copy (place (suc (suc (length δ))) []) ∷ xs) (v ∷ us) after q → Then ((e, v) ∷ δ) xs us after q
    operand δ e X v at go δ' at' grows os =
        widened δ (e, v) go δ' at' grows (and_then ! (load ! (from ! (stop !)) (look_in ! 2 (grows (length δ) v (holds δ e X v at)).1)) os)

    -- ---- the fields from k on, the first of which begins at or after o
    module _ (κs : Lfts 1) where
      took : {q : Post 𝓤 H} (ks : List FieldKind) (x : Denots (rows κs ks)) (bs : Blocks ks) (δ : Cells) (k o : ℕ) (after : Body) → env_of δ (env_for ks bs) ≡ E'
          → ((j : ℕ) → field_at zero τs (k ⊕ j) ≡ field_at o (to_tys (mirs (rows κs ks))) j) → ((j : ℕ) → get_v vs (k ⊕ j) ≡ get_v (of_list (vals κs ks x)) j)
          → WTs (of_list (vals κs ks x)) → Then δ (handed (suc (suc (length δ))) ks) (vals κs ks x) after q
          → Seq (Go {0}) 𝓛 (Γ δ (env_for ks bs)) (runs C Λ E (takes k (suc (suc (length δ))) ks after) q)
      took [] x bs δ k o after at lies is wt go = go δ at (λ l v h. h) (no_more !)
      took (number w ∷ ks) x bs δ k o after at lies is wt go =
          let e : Ty × ℕ = (ty_int w, bs.0) in
          let v : Val = vint w x.0 in
          let X : List (Ty × ℕ) = env_for ks bs.1 in
          copied δ k (ty_int w) (up (align (ty_int w)) o) v (lies zero) (is zero) e X at (eq_w_refl w, wt.0) (takes (suc k) (suc (suc (suc (length δ)))) ks after)
          (took ks x.1 bs.1 ((e, v) ∷ δ) (suc k) (up (align (ty_int w)) o + size (ty_int w)) after at (λ j. lies (suc j)) (λ j. is (suc j)) wt.1 (operand δ e X v at go))
      took (read w ∷ ks) x bs δ k o after at lies is wt go =
          let e : Ty × ℕ = (slice_ty (ty_ref erased imm (ty_int w)), bs.0) in
          let τ : Ty = slice_ty (ty_ref (named 0) imm (ty_int w)) in
          let v : Val = slice_val x.0.ref_ptr (length x.0.now) in
          let X : List (Ty × ℕ) = env_for ks bs.1 in
          copied δ k τ (up (align τ) o) v (lies zero) (is zero) e X at (tt, wt.0) (takes (suc k) (suc (suc (suc (length δ)))) ks after)
          (took ks x.1 bs.1 ((e, v) ∷ δ) (suc k) (up (align τ) o + size τ) after at (λ j. lies (suc j)) (λ j. is (suc j)) wt.1 (operand δ e X v at go))
      took (written w ∷ ks) x bs δ k o after at lies is wt go =
          let e : Ty × ℕ = (ty_ref erased mut (ty_int w), bs.0) in
          let e' : Ty × ℕ = (slice_ty (ty_ref erased mut (ty_int w)), bs.1.0) in
          let τ : Ty = slice_ty (ty_ref (named 0) mut (ty_int w)) in
          let p : ℕ × ℕ = x.0.ref_ptr in
          let n : ℕ = length x.0.now in
          let a : Val = vptr p.0 p.1 in
          let v : Val = slice_val p n in
          let X : List (Ty × ℕ) = env_for ks bs.1.1 in
          let δ₁ : Cells = (e, a) ∷ δ in
          assigns ! (address δ (e ∷ e' ∷ X) k (named 0) (ty_int w) (up (align τ) o) p.0 p.1 n (lies zero) (is zero)) (from ! (stop !)) (stored δ e (e' ∷ X) a at (tt, tt)) $
          assigns ! (agg ! (and_then ! (load ! (from ! (stop !)) (look_in ! 1 (holds δ e (e' ∷ X) a at).1))
          (and_then ! (count δ₁ (e' ∷ X) k (named 0) (ty_int w) (up (align τ) o) p.0 p.1 n (lies zero) (is zero)) (no_more !)))) (from ! (stop !)) (stored δ₁ e' X v at (tt, wt.0)) $
          took ks x.1 bs.1.1 ((e', v) ∷ δ₁) (suc k) (up (align τ) o + size τ) after at (λ j. lies (suc j)) (λ j. is (suc j)) wt.1 (operand δ₁ e' X v at (widened δ (e, a) go))

    -- ---- the call and the return. What the function that is called leaves is typed, and gives what is to be left.
    ends : (f : Name) (xs : List Operand) (us : List Val) (δ : Cells) (Q Kf : Val → SProp 𝓤) → FmC 𝓤 H 𝓛.laws C → env_of δ [] ≡ E'
        → Opds (Go {0}) 𝓛 (Γ' δ) E xs us → ent 𝓤 P (C f us Q) → ((u : Val) → ent 𝓤 (Q u) (H.⇛ (guard 𝓤 (T (has_ty R u) × WT u) (Kf u))))
        → Seq (Go {0}) 𝓛 (Γ δ []) (runs C Λ E (seq (call f xs (place 0 [])) return) (at_ret E Kf))
    ends f xs us δ Q Kf fm at os met typed =
        move ! (3 ∷ []) $ calls_from ! fm (raw P) us Q met os (λ u.
        use1 𝓛 (later (given (T (has_ty R u) × WT u) (raw (Kf u)))) (typed u) $ await ! tt $ learn ! (λ wt.
        -- [what is left; the struct; the fields' locals; no more of them; room for local 0, that it dies, that the struct does]
        land ! (from ! (stop !)) (init ! 4 refl wt) $ returns ! (look ! 4 refl) $ forget ! 4 refl $ forget ! 1 refl $
        move ! (4 ∷ 5 ∷ []) $ free1 ! $ move ! (1 ∷ 4 ∷ []) $ free1 ! $ keep ! (1 ∷ 0 ∷ []) $
        by ! (subst (λ (F : List (Ty × ℕ)). ent 𝓤 (sep 𝓤 (Done δ) (Kf u)) (release 𝓤 H F (Kf u))) at (freed δ [] (Kf u)))))

  -- ---- the law
  module _ (C : Calls 𝓤 H) (Λ : Loops 𝓤 H) (fm : FmC 𝓤 H 𝓛.laws C) (κs : Lfts 1) (ks : List FieldKind) (ν : Sym) (R : Ty) (f : Name) (x : Denots (rows κs ks)) where
    abbrev τs : Tys
    τs = to_tys (mirs (rows κs ks))

    abbrev us : Vals
    us = of_list (vals κs ks x)

    pub runs_on : T (has_ty (ty_struct ν τs) (vstruct us)) × WT (vstruct us) → (P : SProp 𝓤) (Q Kf : Val → SProp 𝓤) → ent 𝓤 P (C f (vals κs ks x) Q)
        → ((u : Val) → ent 𝓤 (Q u) (H.⇛ (guard 𝓤 (T (has_ty R u) × WT u) (Kf u))))
        → ent 𝓤 P (WpFn 𝓤 H C Λ (hands_on R (ty_struct ν τs) f ks) (vstruct us ∷ []) Kf)
    runs_on wt P Q Kf met typed =
        qed 𝓛 (raw P ∷ []) ∵ enter ! C Λ (hands_on R (ty_struct ν τs) f ks) (vstruct us ∷ []) Kf $
        alloc1 ! (λ b₀. alloc1 ! (λ b₁. allocated ks _ (λ bs. params1 ! $ pass1 ! (init ! 1 refl wt) $ pass0 ! $
        -- none of the fields' locals is done
        use0 𝓛 (raw (emp 𝓤)) (id⊢ 𝓤 (emp 𝓤)) $ move ! (2 ∷ 0 ∷ 1 ∷ 6 ∷ 4 ∷ 5 ∷ 3 ∷ []) $
        took C Λ R ν τs us b₀ b₁ (env_for ks bs) P κs ks x bs [] 0 0 (seq (call f (handed 2 ks) (place 0 [])) return) refl
        (λ j. ap (field_at zero τs) (zero-⊕ j)) (λ j. ap (get_v us) (zero-⊕ j)) wt.1 (λ δ at grows os.
        ends C Λ R ν τs us b₀ b₁ (env_for ks bs) P f (handed 2 ks) (vals κs ks x) δ Q Kf fm at os met typed))))
