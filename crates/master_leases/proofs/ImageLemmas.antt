-- An image that comes into the pool.
use Rattle.std.proofs.Common.{◌≡◌, List, Option, Some, None, refl}
use Rattle.tm_data.specs.declared.image.Image.{Image}
use Rattle.page_model.specs.Pool.{put_in}
use Rattle.master_model.specs.State.{Work, settled}
use Rattle.master_model.specs.Leases.{with_image, with_images}
use Rattle.master_leases.specs.Inside as inside
use Rattle.master_leases.specs.Inside.{with_put}

put_by : (w : Work) (images : Option (List Image)) → with_images w images ≡ record w { pool = inside.with_images w.pool images }
put_by w None = refl
put_by w (Some images) = refl

-- It changes the pool alone.
pub image_put : (w : Work) (image : Image) → with_image w image ≡ record w { pool = with_put w.pool image (settled w) }
image_put w image = put_by w (put_in w.pool image (settled w))
