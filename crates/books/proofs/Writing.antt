-- What several writings one after another write. Assumes nothing.
use Rattle.std.proofs.Common.{◌≡◌, ℕ, List, [], ◌∷◌, ◌++◌, length, set, ◌<◌, add-one, append_assoc, sym, refl, ap, ◌∙◌, arith, length-append}
use Rattle.std.proofs.Math.Seq.{paste}
use Rattle.std.specs.List.{flat_map}
use Rattle.std.proofs.lemmas.List.{drop_more, drop_all, set_split}
use Rattle.std.proofs.lemmas.List.Edits.{paste_none, paste-paste, length-paste}
use Rattle.books.specs.declared.writer.Writer.{Writer}
use Rattle.books.specs.Writing.{HasRoom, Writes}

pub byte_written : (out : List ℕ) (at b : ℕ) → at < length out → set out at b ≡ paste out at (b ∷ []) 1
byte_written out at b h = simp (add-one, append_assoc) (set_split out at b h)

-- Of the bytes that are to be written from `before` on, `rest` are left to write at `now`.
pub record Left (all rest : List ℕ) (before now : Writer) : Type 0 where
  pub room : HasRoom rest now
  pub then_all : (w : Writer) → Writes rest now w → Writes all before w

pub left_none : (all : List ℕ) (w : Writer) → HasRoom all w → Left all all w w
left_none all w r = record { room = r; then_all = λ _ t. t }

-- the next part has room
pub left_room : (all rest part more : List ℕ) (before now : Writer) → Left all rest before now → rest ≡ part ++ more → HasRoom part now
left_room all rest part more before now l e = record { room = omega (arith, l.room.room, ap length e, length-append part more) }

writes_both : (part more : List ℕ) (a b c : Writer) → HasRoom (part ++ more) a → Writes part a b → Writes more b c → Writes (part ++ more) a c
writes_both part more a b c r s t =
    let n = length-append part more in
    record {
      place = omega (arith, s.place, t.place);
      output =
          t.output ∙ ap (λ x. paste x b.at more (length more)) s.output ∙ ap (λ p. paste (paste a.out.now a.at part (length part)) p more (length more)) s.place
          ∙ paste-paste a.out.now a.at part more (length part) (length more) refl refl (omega (arith, r.room))
          ∙ ap (paste a.out.now a.at (part ++ more)) (sym n);
      lender = t.lender ∙ s.lender;
    }

pub left_more : (all rest part more : List ℕ) (before now after : Writer) → Left all rest before now → rest ≡ part ++ more → Writes part now after
    → Left all more before after
left_more all rest part more before now after l e s =
    let r : HasRoom (part ++ more) now = rw e at (l.room) in
    let n = length-append part more in
    let long : length after.out.now ≡ length now.out.now =
    ap length s.output ∙ length-paste now.out.now now.at part (length part) (omega (arith, r.room)) (omega arith) in
    record {
      room = record { room = omega (arith, r.room, s.place) };
      then_all = λ w t. l.then_all w (rw e (writes_both part more now after w r s t));
    }

-- nothing is left
pub left_all : (all : List ℕ) (before now : Writer) → Left all [] before now → Writes all before now
left_all all before now l = l.then_all now (record { place = omega arith; output = paste_none now.out.now now.at []; lender = refl })

-- what is left is the next part
pub rest_room : (all rest : List ℕ) (before now : Writer) → Left all rest before now → HasRoom rest now
rest_room all rest before now l = l.room

pub rest_all : (all rest : List ℕ) (before now after : Writer) → Left all rest before now → Writes rest now after → Writes all before after
rest_all all rest before now after l w = l.then_all after w

pub ruleset writing_steps = (left_none, left_room, left_more, left_all, rest_room, rest_all)

-- the steps of a loop that writes the items of a list one after another, of which xs are left
module _ {X : Type 0} (f : X → List ℕ) (all : List ℕ) (xs : List X) (before now : Writer) (l : Left all (flat_map f xs) before now) where
  pub item_room : (x : X) (more : List X) → xs ≡ x ∷ more → HasRoom (f x) now
  item_room x more e = left_room all (flat_map f xs) (f x) (flat_map f more) before now l (ap (flat_map f) e)

  pub item_more : (x : X) (more : List X) (after : Writer) → xs ≡ x ∷ more → Writes (f x) now after → Left all (flat_map f more) before after
  item_more x more after e w = left_more all (flat_map f xs) (f x) (flat_map f more) before now after l (ap (flat_map f) e) w

  pub items_all : xs ≡ [] → Writes all before now
  items_all e = left_all all before now (rw e at l)

pub ruleset item_steps = (left_none, item_room, item_more, items_all, drop_more, drop_all)
