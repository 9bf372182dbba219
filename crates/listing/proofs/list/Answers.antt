use mathlib.Core.Path.{refl}
use Rattle.text.proofs.Grows.{all_put}
use Rattle.listing.proofs.Lengths.{listing_length}
use Rattle.listing.proofs.list.Goals as goal

pub returns : goal.returns
returns c =
    let text = all_put refl (listing_length c.args.page.now) c.put_listing.ensures in
    rw (c.bytes.ensures, text) at c.place.ensures
