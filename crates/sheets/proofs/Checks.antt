-- What the check's answer tells of the sheet. Assumes nothing.
use Rattle.std.proofs.Common.{◌≡◌, ℕ, ◌<◌, Bool, true, List, length, Ok, Result, sym, ap, ◌∙◌, arith}
use Rattle.std.proofs.lemmas.Bool.Decides.{nat_tests}
use Rattle.nets.specs.declared.refusal.Refusal.{Refusal}
use Rattle.nets.specs.Model.{Model, Sound}
use Rattle.costs.specs.Kind.{Laws}
use Rattle.costs.specs.declared.kind.CostKind.{Ghosts as Kind}
use Rattle.sheets.specs.declared.row.Row.{Row}
use Rattle.sheets.specs.Tables.{graph, sheet, RightSheet}
use Rattle.sheets.specs.Verdict.{verdict}
use Rattle.sheets.specs.Check.{admitted, answered, checked, Tells}
use Rattle.sheets.proofs.Within.{Within, within}
use Rattle.sheets.proofs.Verdicts.{yes_right, right_yes}
use Rattle.sheets.proofs.Agreement.{right_sheets_agree, one_gateway, shown_routes}

-- a call that is answered was admitted
pub record Admits {A : Type 0} (m : Model) (g size : ℕ) (a b : A) : Type 0 where
  pub station : g < m.stations
  pub table : size ≡ m.stations
  pub answer : a ≡ b

pub admitted_says : {A : Type 0} (m : Model) (g size : ℕ) (a b : A) → answered (admitted m g size) a ≡ Ok b → Admits m g size a b
admitted_says m g size a b e = record { station = grind (arith, nat_tests); table = grind (arith, nat_tests); answer = grind (arith, nat_tests) }

pub admitted_from : (m : Model) (g size : ℕ) → g < m.stations → size ≡ m.stations → admitted m g size ≡ Ok tt
admitted_from m g size h e = grind (arith, nat_tests)

module _ {K C V : Type 0} (kind : Kind K C V) (L : Laws kind.ops) (m : Model) (ok : Sound m) (g : ℕ) (rows : List (Row C)) where
  net_within : Within (graph kind m)
  net_within = within kind.ops m ok

  pub yes_is_right : checked kind m g rows ≡ Ok true → RightSheet kind m g rows
  yes_is_right e =
      let a = admitted_says m g (length rows) _ true e in
      record {
        size = a.table;
        right = yes_right kind.ops L (graph kind m) net_within g (sheet kind rows) a.station a.answer;
      }

  pub right_is_yes : RightSheet kind m g rows → checked kind m g rows ≡ Ok true
  right_is_yes R =
      ap (λ a. answered a (verdict kind.ops (graph kind m) g (sheet kind rows))) (admitted_from m g (length rows) R.right.station R.size)
      ∙ ap Ok (right_yes kind.ops L (graph kind m) net_within g (sheet kind rows) R.right)

  -- all that an answer tells follows from its equation
  pub tells : (r : Result Bool Refusal) → r ≡ checked kind m g rows → Tells kind m g rows r
  tells r e =
      let right : r ≡ Ok true → RightSheet kind m g rows = λ q. yes_is_right (sym e ∙ q) in
      record {
        sound = right;
        complete = λ R. e ∙ right_is_yes R;
        shown = λ q v ks h shows. shown_routes kind.ops L (graph kind m) net_within (sheet kind rows) g (right q).right v ks h shows;
        only = λ q h Q. one_gateway kind.ops L (graph kind m) net_within (sheet kind rows) g h (right q).right Q.right;
        agrees = λ q n same others Q v h. right_sheets_agree kind.ops L m n same g (sheet kind rows) (sheet kind others) (right q).right Q.right v h;
      }
