use Rattle.std.proofs.Common.{◌≡◌, ◌∙◌, ap, arith}
use Rattle.tk_model.specs.Hashes.{bucket_of}
use Rattle.tk_block.specs.Layout.{bucket_in}
use Rattle.tk_hash.proofs.seek.first_place.Goals as goal
