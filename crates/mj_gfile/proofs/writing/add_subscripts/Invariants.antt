use Rattle.std.proofs.Common.{◌≡◌, ◌++◌, drop}
use Rattle.std.specs.List.{list_all}
use Rattle.mj_gfile.specs.Begins.{HasFront}
use Rattle.mj_text.specs.declared.limit.Limit.TheVariants.{V2}
use Rattle.mj_gfile.specs.Listing.{is_text}
use Rattle.mj_gfile.specs.Spelling.{listed_rest}
use Rattle.mj_gfile.proofs.writing.add_subscripts.Given as goal

abbrev pub invariant-loop-sub : goal.invariant-loop-sub
invariant-loop-sub l = record {
  all : l.bytes.items ++ listed_rest (drop l.sub-index l.rest) ≡ l.initial.bytes.items ++ listed_rest l.rest;
  kept : HasFront l.fn.bytes.items l.bytes.items;
  fits : list_all (is_text V2) (drop l.sub-index l.rest) ≡ list_all (is_text V2) l.rest;
}
