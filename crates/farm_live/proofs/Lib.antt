mod Served
mod SiteFile
mod Crossing
